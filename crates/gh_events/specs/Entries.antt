-- Entries of the holder: which are allowed, and what each does to the slots, the indices and what
-- is owed.
use Rattle.std.specs.Prelude.{◌≡◌, ◌==◌, ◌&&◌, ◌||◌, ◌+◌, ◌-◌, ◌<◌, ◌≤◌, not, ℕ, Bool, true, false, List, [], ◌∷◌, length, Option, Some, None, map, nat_le, nat_lt, slice_get, if◌then◌else◌}
use Rattle.std.specs.List.{list_all}
use Rattle.gh_base.specs.CapWord.{filled_bits, object_of}
use Rattle.gh_base.specs.declared.cap_word.CapWord.{CapWord}
use Rattle.gh_base.specs.declared.frame.Reply.{Reply}
use Rattle.gh_base.specs.declared.limits.TheConstants.{CPUS, OBJECT_INDICES}
use Rattle.gh_invariant.specs.Effects.{sets}
use Rattle.gh_invariant.specs.Lives.{lives}
use Rattle.gh_model.specs.Act.{Done, Refused}
use Rattle.gh_model.specs.Decisions.{done}
use Rattle.gh_model.specs.Graced.{GoesUnread, GoesUnreferenced}
use Rattle.gh_model.specs.History as history
use Rattle.gh_model.specs.Legal.{IsPart, revoked_object}
use Rattle.gh_model.specs.Marks.{word_of}
use Rattle.gh_model.specs.declared.change.Change.{Change}
use Rattle.gh_model.specs.declared.entry.Entry.{Entry}
use Rattle.gh_model.specs.declared.entry.Entry.TheVariants.{Acted, Part, Retired, Reclaimed}
use Rattle.gh_model.specs.declared.rows.CapabilityRow.{CapabilityRow}
use Rattle.gh_model.specs.declared.state.State.{State}
use Rattle.gh_model.specs.declared.word.Word.{Word}
use Rattle.gh_events.specs.Config.{AtAct, Config, Current, HasTurn, Holder, IsIn, has_acted, has_part, judged, live_references, present, put, references_at, some_killed}

-- what the history gets

-- an entry with the call of its holder, the frame's bytes and the words that its looks found
abbrev pub logged : Entry → Current → history.Event
logged entry call = record {
  entry = entry;
  call = call.given.call;
  bytes = call.given.frame.bytes;
  words = map word_of call.seen;
}

-- the state after one more entry of this call
abbrev pub next_state : Config → Current → Entry → State
next_state conf call entry = history.after_event (present conf) (logged entry call)

-- what each kind of entry needs

-- the counters are those that the holder scanned in this turn, of all nine CPUs
pub record AreScans (holder : Holder) (seen : List ℕ) : Type 0 where
  pub nine : length seen ≡ CPUS
  pub each : (cpu : ℕ) → cpu < CPUS → slice_get seen cpu ≡ holder.scans cpu

-- an act: it is that of the holder's call, whose CPU and grants are there, it is done in the
-- present state, and no object is killed and not retired
pub record IsActOf (conf : Config) (holder : Holder) (call : Current) (cpu number : ℕ) : Type 0 where
  pub its_cpu : cpu ≡ holder.cpu
  pub its_number : number ≡ call.given.number
  pub may_act : history.may_act (present conf) cpu call.given.call (map word_of call.seen) ≡ true
  pub new : State
  pub reply : Reply
  pub is_done : judged (present conf) cpu call ≡ Done new reply
  pub none_killed : some_killed conf ≡ false

-- the slot isn't behind this one, by the serial of the capability space and then by number
abbrev pub is_before : ℕ → ℕ → CapabilityRow → Bool
is_before space slot row =
    nat_lt space row.cspace.0 || ((space == row.cspace.0) && nat_le slot row.slot)

-- the row is a valid capability of this object without master mark
abbrev pub is_plain_of : ℕ → CapabilityRow → Bool
is_plain_of object row = history.may_part (Some row) && (row.serial.0 == object)

-- the slot is the least that holds a valid capability of the object without master mark
abbrev pub is_least : State → ℕ → ℕ → ℕ → Bool
is_least s object space slot =
    list_all (λ (row : CapabilityRow). not (is_plain_of object row) || is_before space slot row) s.caps

-- a part: it is one of the holder's call, which revokes all capabilities of its object and isn't
-- refused for another cause; its slot is the least there is; no object is killed and not retired
pub record IsPartOf (conf : Config) (holder : Holder) (call : Current) (entry : Entry)
    (cpu number space slot : ℕ) : Type 0 where
  pub its_cpu : cpu ≡ holder.cpu
  pub its_number : number ≡ call.given.number
  pub part : IsPart (present conf) (logged entry call) space slot
  pub goes_on : judged (present conf) cpu call ≡ Refused done
  pub least : is_least (present conf) (revoked_object (logged entry call)) space slot ≡ true
  pub none_killed : some_killed conf ≡ false

-- a retirement: the object has no references and isn't retired, its word is dead, and all nine
-- counters were scanned since the kill
pub record IsRetirement (conf : Config) (holder : Holder) (entry : Entry) (serial : ℕ)
    (seen : List ℕ) : Type 0 where
  pub unreferenced : GoesUnreferenced (present conf) entry
  pub dead : conf.dead (conf.index serial) ≡ true
  pub scans : AreScans holder seen
  pub no_part : has_part holder ≡ false

-- a reclaim: the object is retired and still without references, all nine counters were scanned in
-- this turn, and each CPU that was reading at the retirement has left
pub record IsReclaim (conf : Config) (holder : Holder) (entry : Entry) (seen : List ℕ) : Type 0 where
  pub unreferenced : GoesUnreferenced (present conf) entry
  pub unread : GoesUnread (present conf) entry
  pub scans : AreScans holder seen
  pub no_part : has_part holder ≡ false

abbrev pub KindAllows : Config → Holder → Current → Entry → Entry → Type 0
KindAllows conf holder call entry (Acted cpu number) = IsActOf conf holder call cpu.0 number
KindAllows conf holder call entry (Part cpu number space slot) =
    IsPartOf conf holder call entry cpu.0 number space.0 slot
KindAllows conf holder call entry (Retired serial seen) =
    IsRetirement conf holder entry serial.0 seen
KindAllows conf holder call entry (Reclaimed serial seen) = IsReclaim conf holder entry seen

-- words

-- the bits of a word, with the index of the object that it names
abbrev pub row_shown : (ℕ → ℕ) → ℕ → Option CapabilityRow → ℕ
row_shown index set_at None = set_at
row_shown index set_at (Some row) =
    filled_bits row.valid row.kind row.master (index row.serial.0) row.rights.0 set_at

abbrev pub shown : (ℕ → ℕ) → Word → ℕ
shown index word = row_shown index word.set_at word.row

-- the slot that changes set, the first if there are more
abbrev pub or_else : Option (ℕ × ℕ) → Option (ℕ × ℕ) → Option (ℕ × ℕ)
or_else None others = others
or_else (Some place) others = Some place

abbrev pub slot_set : List Change → Option (ℕ × ℕ)
slot_set [] = None
slot_set (change ∷ changes) = or_else (sets change) (slot_set changes)

-- the entry makes an object: the next serial lives behind it
abbrev pub makes_object : State → State → Bool
makes_object s new = lives new.objects s.next_serial

-- the indices behind an entry that sets a slot to this word: an object that it makes has the index
-- in the word
abbrev pub index_after : Config → State → CapWord → ℕ → ℕ
index_after conf new word =
    if makes_object (present conf) new
    then put conf.index (present conf).next_serial (object_of word.0) else conf.index

abbrev pub is_that_index : ℕ → ℕ → Bool
is_that_index at index = index == at

-- what is owed

-- what is owed at an index falls by as much as the references of its object rise, and rises by as
-- much as they fall
abbrev pub owed_after : Config → Holder → State → (ℕ → ℕ) → ℕ → ℕ
owed_after conf holder new index at =
    holder.owed at + live_references conf at - references_at new index at

-- and nowhere below 0
abbrev pub Covers : Config → Holder → State → (ℕ → ℕ) → Type 0
Covers conf holder new index =
    (at : ℕ) → at < OBJECT_INDICES
    → references_at new index at ≤ holder.owed at + live_references conf at

-- the CPU has the turn, its call is at its act, and the entry is allowed: none is after the act's
-- entry of this turn, and after a part only parts and the act's entry are
pub record Allows (conf : Config) (at : ℕ) (entry : Entry) (holder : Holder) (call : Current)
    : Type 0 where
  pub has_turn : HasTurn conf at holder
  pub in_act : IsIn (conf.cpu at) call AtAct
  pub not_acted : has_acted holder ≡ false
  pub allowed : KindAllows conf holder call entry entry
