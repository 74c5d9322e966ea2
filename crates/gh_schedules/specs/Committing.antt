-- How the holder commits an entry: what gets a reference is owed one before the entry, and what
-- loses one is owed it behind the entry until it is settled.
use Rattle.std.specs.Prelude.{ℕ, Bool, true, List, [], ◌∷◌, ◌++◌, Option, Some, None, filter, map, nat_lt}
use Rattle.gh_base.specs.declared.cap_word.CapWord.{CapWord}
use Rattle.gh_base.specs.declared.ids.CpuNo.{CpuNo}
use Rattle.gh_base.specs.declared.ids.ObjIndex.{ObjIndex}
use Rattle.gh_base.specs.declared.ids.Serial.{Serial}
use Rattle.gh_invariant.specs.Effects.{gained, lost, times}
use Rattle.gh_invariant.specs.Events.{changes_of}
use Rattle.gh_model.specs.Word.{word_at}
use Rattle.gh_model.specs.declared.change.Change.{Change}
use Rattle.gh_model.specs.declared.entry.Entry.{Entry}
use Rattle.gh_model.specs.declared.rows.ObjectRow.{ObjectRow}
use Rattle.gh_model.specs.declared.state.State.{State}
use Rattle.gh_events.specs.Config.{Config, Current, present, put}
use Rattle.gh_events.specs.Entries.{logged, next_state, shown, slot_set}
use Rattle.gh_schedules.specs.Indices.{new_index}
use Rattle.gh_schedules.specs.Places.{added, places_of}
use Rattle.gh_events.specs.declared.event.Event.{Event}
use Rattle.gh_events.specs.declared.event.Event.TheVariants.{Commit, Pin, Revive, SetCap, Unpin}

abbrev pub cpu_no : ℕ → CpuNo
cpu_no at = record { 0 = at }

abbrev pub index_no : ℕ → ObjIndex
index_no at = record { 0 = at }

-- the holder owes a reference of this object, and owes it no more
abbrev pub owe : ℕ → (ℕ → ℕ) → Serial → Event
owe at index serial = Pin (cpu_no at) (index_no (index serial.0)) true

abbrev pub settle : ℕ → (ℕ → ℕ) → Serial → Event
settle at index serial = Unpin (cpu_no at) (index_no (index serial.0)) true

-- the object was made before
abbrev pub is_made : ℕ → Serial → Bool
is_made next serial = nat_lt serial.0 next

-- the indices behind changes: an object that they make gets its own
abbrev pub with_new : State → (ℕ → ℕ) → (ℕ → ℕ) → Option ObjectRow → ℕ → ℕ
with_new s places index None = index
with_new s places index (Some row) =
    put index row.serial.0 (new_index s places index row.partition.0)

-- each reference that an object gets is owed before, and the index of a new one is revived with its
-- first references
abbrev pub gains_owed : ℕ → State → (ℕ → ℕ) → List Serial → List Event
gains_owed at s index gains = map (owe at index) (filter (is_made s.next_serial) gains)

abbrev pub revives : ℕ → State → (ℕ → ℕ) → (ℕ → ℕ) → List Serial → Option ObjectRow
    → List Event
revives at s places index gains None = []
revives at s places index gains (Some row) =
    Revive (cpu_no at) (index_no (new_index s places index row.partition.0))
    (times row.serial.0 gains) ∷ []

-- the entry: with the slot that it sets, if it sets one, and the word that the slot has behind it
abbrev pub slot_word : State → (ℕ → ℕ) → ℕ × ℕ → CapWord
slot_word new index place = record { 0 = shown index (word_at new place.0 place.1) }

abbrev pub entry_event : ℕ → Entry → State → (ℕ → ℕ) → (ℕ → ℕ) → Option (ℕ × ℕ) → Event
entry_event at entry new index later None = Commit (cpu_no at) entry
entry_event at entry new index later (Some place) =
    SetCap (cpu_no at) entry (index_no (index place.0)) place.1 (slot_word new later place)

-- each reference that an object lost is settled
abbrev pub losses_settled : ℕ → (ℕ → ℕ) → List Serial → List Event
losses_settled at index losses = map (settle at index) losses

-- all of it, of an entry with these changes
abbrev pub commits : ℕ → Entry → State → State → (ℕ → ℕ) → (ℕ → ℕ) → List Change → List Event
commits at entry s new places index changes =
    gains_owed at s index (gained s changes)
    ++ (revives at s places index (gained s changes) (added changes)
    ++ (entry_event at entry new index (with_new s places index (added changes)) (slot_set changes)
    ∷ losses_settled at index (lost s changes)))

abbrev pub commits_of : ℕ → Entry → Config → Option Current → List Event
commits_of at entry conf None = []
commits_of at entry conf (Some call) =
    commits at entry (present conf) (next_state conf call entry) (places_of conf) conf.index
    (changes_of (present conf) (logged entry call))

-- the holder commits the entry of its call
unfoldable pub committing : ℕ → Entry → Config → List Event
committing at entry conf = commits_of at entry conf (conf.cpu at).current
