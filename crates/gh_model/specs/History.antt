-- The history and what it makes of the boot state.
use Rattle.std.specs.Prelude.{◌&&◌, ◌+◌, not, ℕ, Bool, true, false, List}
use Rattle.std.specs.Prelude.{[], ◌∷◌, ◌++◌, take, Option, Some, None}
use Rattle.std.specs.Prelude.{fold, find, map, is_some, nat_lt, if◌then◌else◌}
use Rattle.gh_base.specs.declared.call.Call.{Call}
use Rattle.gh_base.specs.declared.cap_word.Need.{Need}
use Rattle.gh_base.specs.declared.ids.Serial.{Serial}
use Rattle.gh_model.specs.declared.entry.Entry.{Entry}
use Rattle.gh_model.specs.declared.entry.Entry.TheVariants.{Acted, Part, Retired, Reclaimed}
use Rattle.gh_model.specs.declared.rows.ObjectRow.{ObjectRow}
use Rattle.gh_model.specs.declared.rows.CapabilityRow.{CapabilityRow}
use Rattle.gh_model.specs.declared.state.State.{State}
use Rattle.gh_model.specs.declared.word.Word.{Word}
use Rattle.gh_model.specs.Rows.{object_row, cpu_row, fills}
use Rattle.gh_model.specs.Word.{kind_fits}
use Rattle.gh_model.specs.Registers.{needs_of}
use Rattle.gh_model.specs.Marks.{Seen, Made}
use Rattle.gh_model.specs.References.{is_doomed}
use Rattle.gh_model.specs.Decide.{judge}
use Rattle.gh_model.specs.Act.{Verdict, Done, Refused, counted}
use Rattle.gh_model.specs.Changes.{changed}
use Rattle.gh_model.specs.declared.change.Change.TheVariants as change

-- an entry with what the log keeps beside it: of an act its call, the frame's bytes and the words
-- that its looks found, and of a part those of the call that it is a part of. Beside another entry
-- they mean nothing
pub record Event : Type 0 where
  pub entry : Entry
  pub call : Call
  pub bytes : List ℕ
  pub words : List Word

-- what a look gives an entry of this number: its word, and of a look at that number or above it
-- nothing
abbrev pub word_for : ℕ → Seen → Word
word_for number seen =
    if nat_lt seen.look.place number then seen.word else record { row = None; set_at = 0 }

-- the entry of this number that is the act of a finished call
abbrev pub event_of : ℕ → Call → Made → Event
event_of number call made = record {
  entry = Acted made.mark.cpu made.mark.number;
  call = call;
  bytes = made.frame.bytes;
  words = map (word_for number) made.seen;
}

-- the entry of an event
abbrev pub entry_of : Event → Entry
entry_of event = event.entry

-- the CPU and the number of the call that an entry is of
abbrev pub caller : Entry → Option (ℕ × ℕ)
caller (Acted cpu number) = Some (cpu.0, number)
caller (Part cpu number space slot) = Some (cpu.0, number)
caller (Retired serial seen) = None
caller (Reclaimed serial seen) = None

-- the object that an entry retires
abbrev pub retires : Entry → Option ℕ
retires (Acted cpu number) = None
retires (Part cpu number space slot) = None
retires (Retired serial seen) = Some serial.0
retires (Reclaimed serial seen) = None

-- the object that an entry reclaims
abbrev pub reclaims : Entry → Option ℕ
reclaims (Acted cpu number) = None
reclaims (Part cpu number space slot) = None
reclaims (Retired serial seen) = None
reclaims (Reclaimed serial seen) = Some serial.0

-- the CPUs' counters that an entry kept
abbrev pub counters : Entry → Option (List ℕ)
counters (Acted cpu number) = None
counters (Part cpu number space slot) = None
counters (Retired serial seen) = Some seen
counters (Reclaimed serial seen) = Some seen

-- only the number of entries changes: what an entry does that isn't allowed
abbrev pub numbered : State → State
numbered s = record s { entries = s.entries + 1 }

-- a word names an object of the kind that is needed
abbrev pub row_fits : Option CapabilityRow → Need → Bool
row_fits None need = false
row_fits (Some row) need = kind_fits need.kind row.kind

-- there is a grant for each need, of the needed kind; words beyond the needs are passed over
abbrev pub grants_fit : List (ℕ × Need) → List Word → Bool
grants_fit [] words = true
grants_fit (need ∷ needs) [] = false
grants_fit (need ∷ needs) (word ∷ words) = row_fits word.row need.1 && grants_fit needs words

-- an act is allowed where its CPU is there, and its call has its grants
abbrev pub may_act : State → ℕ → Call → List Word → Bool
may_act s cpu call words = is_some (cpu_row s cpu) && grants_fit (needs_of call) words

-- the state behind an act: as the verdict leaves it, one entry later
abbrev pub after_verdict : State → Verdict → State
after_verdict s (Done new reply) = new
after_verdict s (Refused reply) = numbered s

-- the act of a call
abbrev pub acted : State → ℕ → Call → List ℕ → List Word → State
acted s cpu call bytes words =
    if may_act s cpu call words then after_verdict s (judge s cpu call bytes words) else numbered s

-- a row that a part revokes: valid, and not the master capability
abbrev pub may_part : Option CapabilityRow → Bool
may_part None = false
may_part (Some row) = row.valid && not row.master

-- a part of a revoke takes a slot
abbrev pub took : State → Serial → ℕ → State
took s space slot = record s { taken = s.taken ++ record { cspace = space; slot = slot } ∷ [] }

-- one valid capability without master mark is revoked
abbrev pub parted : State → Serial → ℕ → State
parted s space slot =
    if may_part (find (fills space.0 slot) s.caps)
    then numbered (took (changed s (change.RevokeCapability space slot)) space slot) else numbered s

-- the object is there and not retired
abbrev pub is_unretired : Option ObjectRow → Bool
is_unretired None = false
is_unretired (Some row) = not (is_some row.retired)

-- the object is there and retired
abbrev pub is_retired : Option ObjectRow → Bool
is_retired None = false
is_retired (Some row) = is_some row.retired

-- a doomed object is retired once: its row gets the counters
abbrev pub retired : State → Serial → List ℕ → State
retired s serial seen =
    if is_doomed s serial.0 && is_unretired (object_row s serial.0)
    then counted (changed s (change.Retire serial seen)) else numbered s

-- a retired object that is still doomed goes away
abbrev pub reclaimed : State → Serial → State
reclaimed s serial =
    if is_doomed s serial.0 && is_retired (object_row s serial.0)
    then counted (changed s (change.Reclaim serial)) else numbered s

-- the state after one more entry
abbrev pub after_entry : State → Event → Entry → State
after_entry s event (Acted cpu number) = acted s cpu.0 event.call event.bytes event.words
after_entry s event (Part cpu number space slot) = parted s space slot
after_entry s event (Retired serial seen) = retired s serial seen
after_entry s event (Reclaimed serial seen) = reclaimed s serial

-- the state behind an event
abbrev pub after_event : State → Event → State
after_event s event = after_entry s event event.entry

-- the state that a history makes of the boot state
abbrev pub replay : State → List Event → State
replay boot history = fold after_event boot history

-- the state after the first n entries
abbrev pub state_at : State → List Event → ℕ → State
state_at boot history n = replay boot (take n history)
