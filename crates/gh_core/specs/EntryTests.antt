-- The conditions of the holder's entries as tests.
use Rattle.std.specs.Prelude.{◌==◌, ◌&&◌, ◌+◌, not, ℕ, Bool, true, false, List, [], ◌∷◌, length, Option, Some, None, find, nat_le, nat_lt, slice_index, if◌then◌else◌}
use Rattle.gh_base.specs.Counters.{is_odd}
use Rattle.gh_base.specs.declared.limits.TheConstants.{CPUS}
use Rattle.gh_invariant.specs.Effects.{slots_set}
use Rattle.gh_invariant.specs.Events.{changes_of}
use Rattle.gh_model.specs.Act.{Verdict, Done, Refused}
use Rattle.gh_model.specs.Graced.{retirement}
use Rattle.gh_model.specs.History as history
use Rattle.gh_model.specs.Legal.{is_revoke, revoked_object, row_names}
use Rattle.gh_model.specs.Rows.{fills, object_row}
use Rattle.gh_model.specs.declared.entry.Entry.{Entry}
use Rattle.gh_model.specs.declared.entry.Entry.TheVariants.{Acted, Part, Retired, Reclaimed}
use Rattle.gh_model.specs.declared.state.State.{State}
use Rattle.gh_events.specs.Config.{Config, Current, Holder, has_acted, has_part, judged, live_references, present, references_at, some_killed}
use Rattle.gh_events.specs.Entries.{is_least, logged}
use Rattle.gh_core.specs.Running.{is_made}
use Rattle.gh_core.specs.Tests.{is_at_act}
use Rattle.gh_events.specs.TurnEvents.{is_scan}

-- the entry is of the holder's call
abbrev pub is_its : Holder → Current → ℕ → ℕ → Bool
is_its holder call cpu number = (cpu == holder.cpu) && (number == call.given.number)

-- the act isn't refused for another cause than that capabilities are left
abbrev pub goes_on : Verdict → Bool
goes_on (Done new reply) = false
goes_on (Refused reply) = slice_index reply.x 0 == 0

-- a slot of a revoke's object, the least there is
abbrev pub is_next_slot : State → history.Event → ℕ → ℕ → Bool
is_next_slot s event space slot =
    row_names (revoked_object event) (find (fills space slot) s.caps)
    && is_least s (revoked_object event) space slot

abbrev pub revokes_next : Config → Current → history.Event → ℕ → ℕ → ℕ → Bool
revokes_next conf call event cpu space slot =
    is_revoke call.given.call
    && (goes_on (judged (present conf) cpu call) && is_next_slot (present conf) event space slot)

-- a part is the next one of the holder's call
abbrev pub part_goes : Config → Holder → Current → history.Event → Entry → Bool
part_goes conf holder call event (Acted cpu number) = false
part_goes conf holder call event (Part cpu number space slot) =
    is_its holder call cpu.0 number && revokes_next conf call event cpu.0 space.0 slot
part_goes conf holder call event (Retired serial seen) = false
part_goes conf holder call event (Reclaimed serial seen) = false

-- these counters, from a CPU on, are what was scanned
abbrev pub scans_are : (ℕ → Option ℕ) → ℕ → List ℕ → Bool
scans_are scans cpu [] = true
scans_are scans cpu (counter ∷ counters) =
    is_scan counter (scans cpu) && scans_are scans (cpu + 1) counters

abbrev pub are_scans : Holder → List ℕ → Bool
are_scans holder seen = (length seen == CPUS) && scans_are holder.scans 0 seen

-- every CPU that was reading has left
abbrev pub has_left : ℕ → ℕ → Bool
has_left before now = if is_odd before then nat_lt before now else true

abbrev pub have_left : List ℕ → List ℕ → Bool
have_left [] [] = true
have_left [] (now ∷ nows) = false
have_left (before ∷ befores) [] = false
have_left (before ∷ befores) (now ∷ nows) = has_left before now && have_left befores nows

abbrev pub is_unread : Option (List ℕ) → List ℕ → Bool
is_unread None seen = true
is_unread (Some before) seen = have_left before seen

-- the object's word is dead, and the counters were scanned before any part
abbrev pub retires : Config → Holder → ℕ → List ℕ → Bool
retires conf holder serial seen =
    conf.dead (conf.index serial) && (are_scans holder seen && not (has_part holder))

-- every CPU that was reading at the object's retirement has left, by these counters
abbrev pub reclaims : State → Holder → ℕ → List ℕ → Bool
reclaims s holder serial seen =
    is_unread (retirement (object_row s serial)) seen
    && (are_scans holder seen && not (has_part holder))

-- what an entry needs beside that the state allows it
abbrev pub kind_goes : Config → Holder → Current → history.Event → Entry → Bool
kind_goes conf holder call event (Acted cpu number) =
    is_its holder call cpu.0 number && not (some_killed conf)
kind_goes conf holder call event (Part cpu number space slot) =
    part_goes conf holder call event (Part cpu number space slot) && not (some_killed conf)
kind_goes conf holder call event (Retired serial seen) = retires conf holder serial.0 seen
kind_goes conf holder call event (Reclaimed serial seen) =
    reclaims (present conf) holder serial.0 seen

-- the CPU has the turn, its call is at its act, and the act's entry is still to come
abbrev pub may_commit : ℕ → Holder → Current → Bool
may_commit at holder call =
    (holder.cpu == at) && (is_at_act call.stage && not (has_acted holder))

-- the event is allowed to a holder whose call is at its act
abbrev pub event_goes : Config → ℕ → Holder → Current → history.Event → Bool
event_goes conf at holder call event =
    may_commit at holder call
    && (kind_goes conf holder call event event.entry && is_made (present conf) event)

abbrev pub allows : Config → ℕ → Entry → Holder → Current → Bool
allows conf at entry holder call = event_goes conf at holder call (logged entry call)

-- no owed amount falls below 0 at an index
abbrev pub covers_at : Config → Holder → State → (ℕ → ℕ) → ℕ → Bool
covers_at conf holder new index at =
    nat_le (references_at new index at) (holder.owed at + live_references conf at)

-- the event sets so many slots
abbrev pub sets_slots : State → history.Event → ℕ → Bool
sets_slots s event count = slots_set (changes_of s event) == count

-- the entry is allowed, and sets so many slots
abbrev pub goes_in : Config → ℕ → Entry → ℕ → Option Holder → Option Current → Bool
goes_in conf at entry count None current = false
goes_in conf at entry count (Some holder) None = false
goes_in conf at entry count (Some holder) (Some call) =
    allows conf at entry holder call && sets_slots (present conf) (logged entry call) count

abbrev pub entry_goes : Config → ℕ → Entry → ℕ → Bool
entry_goes conf at entry count = goes_in conf at entry count conf.turn (conf.cpu at).current
