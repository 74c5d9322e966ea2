-- The conditions of events as tests: what the running machine decides.
use Rattle.std.specs.Prelude.{◌==◌, ◌&&◌, ◌+◌, ◌^◌, not, ℕ, Bool, true, false, List, [], ◌∷◌, length, Option, Some, None, is_some, map, nat_le, nat_lt}
use Rattle.std.specs.List.{last_or, list_any}
use Rattle.gh_base.specs.declared.limits.TheConstants.{CPUS, OBJECT_INDICES}
use Rattle.gh_model.specs.Marks.{Fails, Grants, Outcome, Seen, Wants}
use Rattle.gh_model.specs.References.{is_doomed}
use Rattle.gh_model.specs.declared.rows.ObjectRow.{ObjectRow}
use Rattle.gh_model.specs.declared.state.State.{State}
use Rattle.gh_events.specs.CallEvents.{has_needs, leaves_from}
use Rattle.gh_events.specs.Config.{AtAct, Config, Cpu, Current, DeadPin, Failed, Given, Holder, Looked, Pin, Reading, Stage, Undone, came_to, has_acted, has_part, is_pin_at, judged, live_references, object_at, pin_of, present, seen_index, some_killed}
use Rattle.gh_events.specs.HolderEvents.{is_create, is_done, least_owed}
use Rattle.gh_events.specs.TurnEvents.{ready}

-- stages

abbrev pub is_reading : Stage → Bool
is_reading Reading = true
is_reading Looked = false
is_reading DeadPin = false
is_reading Undone = false
is_reading Failed = false
is_reading AtAct = false

abbrev pub is_looked : Stage → Bool
is_looked Reading = false
is_looked Looked = true
is_looked DeadPin = false
is_looked Undone = false
is_looked Failed = false
is_looked AtAct = false

abbrev pub is_dead_pin : Stage → Bool
is_dead_pin Reading = false
is_dead_pin Looked = false
is_dead_pin DeadPin = true
is_dead_pin Undone = false
is_dead_pin Failed = false
is_dead_pin AtAct = false

abbrev pub is_at_act : Stage → Bool
is_at_act Reading = false
is_at_act Looked = false
is_at_act DeadPin = false
is_at_act Undone = false
is_at_act Failed = false
is_at_act AtAct = true

-- calls

-- the CPU is between calls
abbrev pub is_between : Cpu → Bool
is_between cpu = not (is_some cpu.current) && (length cpu.pins == 0)

-- the next call, if it is given, looks up a capability
abbrev pub next_looks : Option Given → Bool
next_looks None = false
next_looks (Some given) = has_needs given

-- the call's next look is at this slot
abbrev pub wants : ℕ → Outcome → Bool
wants slot (Wants wanted need) = wanted == slot
wants slot (Fails errno) = false
wants slot Grants = false

abbrev pub asks : ℕ → Option Current → Bool
asks slot None = false
asks slot (Some call) = is_reading call.stage && wants slot (came_to call)

-- the last look found a word of this index
abbrev pub is_seen_at : ℕ → Option Seen → Bool
is_seen_at object None = false
is_seen_at object (Some seen) = seen_index seen == object

-- the call is at this stage, and its last look found a word of this index
abbrev pub last_is_at : (Stage → Bool) → ℕ → Option Current → Bool
last_is_at at_stage object None = false
last_is_at at_stage object (Some call) =
    at_stage call.stage && is_seen_at object (last_or None call.seen)

-- nothing is left to do in the call's section
abbrev pub may_leave : Option Current → Bool
may_leave None = false
may_leave (Some call) = leaves_from call.stage (came_to call)

-- events of calls

abbrev pub enters : Config → ℕ → Bool
enters conf at =
    nat_lt at CPUS && (is_between (conf.cpu at) && next_looks (conf.cpu at).next)

abbrev pub looks : Config → ℕ → ℕ → Bool
looks conf at slot = nat_lt at CPUS && asks slot (conf.cpu at).current

abbrev pub pins : Config → ℕ → ℕ → Bool
pins conf at object =
    nat_lt at CPUS && (nat_lt object OBJECT_INDICES && last_is_at is_looked object (conf.cpu at).current)

abbrev pub undoes : Config → ℕ → ℕ → Bool
undoes conf at object =
    nat_lt at CPUS
    && (nat_lt object OBJECT_INDICES && last_is_at is_dead_pin object (conf.cpu at).current)

abbrev pub leaves : Config → ℕ → Bool
leaves conf at = nat_lt at CPUS && may_leave (conf.cpu at).current

abbrev pub unpins : Config → ℕ → ℕ → Bool
unpins conf at object =
    nat_lt at CPUS
    && (nat_lt object OBJECT_INDICES
    && (not (is_some (conf.cpu at).current) && list_any (is_pin_at object) (conf.cpu at).pins))

abbrev pub moves : Config → ℕ → Bool
moves conf at = nat_lt at CPUS && is_between (conf.cpu at)

-- the turn

-- the CPU has the turn, and what it keeps of it passes the test
abbrev pub holder_is : ℕ → (Holder → Bool) → Option Holder → Bool
holder_is at test None = false
holder_is at test (Some holder) = (holder.cpu == at) && test holder

abbrev pub owes_little : Config → ℕ → Holder → Bool
owes_little conf object holder =
    not (conf.dead object) && nat_lt (holder.owed object + live_references conf object) (2 ^ 62)

abbrev pub owes : Config → ℕ → ℕ → Bool
owes conf at object =
    nat_lt at CPUS && (nat_lt object OBJECT_INDICES && holder_is at (owes_little conf object) conf.turn)

abbrev pub owes_more : Config → ℕ → Holder → Bool
owes_more conf object holder = nat_lt (least_owed conf object) (holder.owed object)

abbrev pub settles : Config → ℕ → ℕ → Bool
settles conf at object =
    nat_lt at CPUS && (nat_lt object OBJECT_INDICES && holder_is at (owes_more conf object) conf.turn)

-- the object is without references and not retired
abbrev pub is_ending : State → Option ObjectRow → Bool
is_ending s None = false
is_ending s (Some row) = is_doomed s row.serial.0 && not (is_some row.retired)

-- nothing of the act was committed in this turn
abbrev pub is_before_act : Holder → Bool
is_before_act holder = not (has_acted holder) && not (has_part holder)

abbrev pub owes_none_at : ℕ → Holder → Bool
owes_none_at object holder = (holder.owed object == 0) && is_before_act holder

abbrev pub may_die : Config → ℕ → Bool
may_die conf object =
    is_ending (present conf) (object_at (present conf) conf.index object)
    && (not (conf.dead object) && not (some_killed conf))

abbrev pub kills : Config → ℕ → ℕ → Bool
kills conf at object =
    nat_lt at CPUS
    && (nat_lt object OBJECT_INDICES
    && (holder_is at (owes_none_at object) conf.turn && may_die conf object))

abbrev pub is_any : Holder → Bool
is_any holder = true

abbrev pub scans : Config → ℕ → ℕ → Bool
scans conf at of =
    nat_lt at CPUS && (nat_lt of CPUS && holder_is at is_any conf.turn)

-- the call at its act is a create that is done in the state
abbrev pub creates : State → ℕ → Option Current → Bool
creates s at None = false
creates s at (Some call) =
    is_at_act call.stage && (is_create call.given.call && is_done (judged s at call))

abbrev pub revived_none : Holder → Bool
revived_none holder = not (has_acted holder) && (length holder.revived == 0)

abbrev pub fits_count : Config → ℕ → ℕ → Bool
fits_count conf object count =
    not (is_some (object_at (present conf) conf.index object))
    && (nat_lt 0 count && nat_le count (2 ^ 62))

abbrev pub revives : Config → ℕ → ℕ → ℕ → Bool
revives conf at object count =
    nat_lt at CPUS
    && (nat_lt object OBJECT_INDICES
    && (holder_is at revived_none conf.turn
    && (creates (present conf) at (conf.cpu at).current && fits_count conf object count)))

-- taking and leaving the turn

-- a call whose looks are all grants, with these pins
abbrev pub is_granted : Outcome → Bool
is_granted (Wants slot need) = false
is_granted (Fails errno) = false
is_granted Grants = true

-- two lists of pins are the same
abbrev pub same_pin : Pin → Pin → Bool
same_pin a b = (a.serial == b.serial) && (a.index == b.index)

abbrev pub same_pins : List Pin → List Pin → Bool
same_pins [] [] = true
same_pins [] (pin ∷ pins) = false
same_pins (pin ∷ pins) [] = false
same_pins (a ∷ pins) (b ∷ others) = same_pin a b && same_pins pins others

abbrev pub is_whole : List Pin → Option Current → Bool
is_whole pins None = false
is_whole pins (Some call) = is_granted (came_to call) && same_pins pins (map pin_of call.seen)

abbrev pub takes : Config → ℕ → Bool
takes conf at =
    nat_lt at CPUS
    && (not (is_some conf.turn) && is_whole (conf.cpu at).pins (ready (conf.cpu at)))
