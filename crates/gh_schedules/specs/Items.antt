-- The items of a call: what a CPU does next, as a list of events. Each look, each pin and each undo
-- is one; so are the begin of a section and its end, and the whole act.
use Rattle.std.specs.Prelude.{◌≡◌, ◌==◌, ℕ, zero, suc, Bool, true, false, List, [], ◌∷◌, length, Option, Some, None, filter, map, slice_get, slice_index, if◌then◌else◌}
use Rattle.std.specs.List.{last_or}
use Rattle.std.specs.Option.{option_map_or}
use Rattle.gh_base.specs.declared.call.Call.{Call}
use Rattle.gh_base.specs.declared.call.Call.TheVariants.{ConfigurePartition, ConfigureQueue, Create}
use Rattle.gh_model.specs.Act.{Verdict, Done, Refused, granted}
use Rattle.gh_model.specs.Legal.{is_revoke}
use Rattle.gh_model.specs.Marks.{Fails, Grants, Outcome, Seen, Wants}
use Rattle.gh_model.specs.declared.entry.Entry.{Entry}
use Rattle.gh_model.specs.declared.entry.Entry.TheVariants.{Acted, Part}
use Rattle.gh_model.specs.declared.rows.CapabilityRow.{CapabilityRow}
use Rattle.gh_model.specs.declared.state.State.{State}
use Rattle.gh_events.specs.CallEvents.{has_needs}
use Rattle.gh_schedules.specs.Committing.{committing, cpu_no, index_no}
use Rattle.gh_events.specs.Config.{AtAct, Config, Current, DeadPin, Failed, Given, Looked, Pin as Held, Reading, Stage, Undone, came_to, judged, present, seen_index}
use Rattle.gh_events.specs.Entries.{is_before, is_plain_of}
use Rattle.gh_events.specs.HolderEvents.{is_done}
use Rattle.gh_schedules.specs.Indices.{HasBlocks}
use Rattle.gh_events.specs.Sound.{IsSound}
use Rattle.gh_schedules.specs.Sweep.{KeepsNine, sweep}
use Rattle.gh_schedules.specs.Trace.{and_then}
use Rattle.gh_events.specs.declared.event.Event.{Event}
use Rattle.gh_events.specs.declared.event.Event.TheVariants.{Enter, Free, Leave, Look, Pin, Take, Undo, Unpin}

-- pins of an ended call are dropped, each by its own event
abbrev pub unpin : ℕ → Held → Event
unpin at pin = Unpin (cpu_no at) (index_no pin.index) false

unfoldable pub unpins : ℕ → Config → List Event
unpins at conf = map (unpin at) (conf.cpu at).pins

-- the section is left. Where that ends the call, its pins go with it
unfoldable pub leave : ℕ → Config → List Event
leave at conf = Leave (cpu_no at) ∷ []

unfoldable pub leave_ended : ℕ → Config → List Event
leave_ended at = and_then (leave at) (unpins at)

-- the parts of a revoke

-- the lesser of two slots
abbrev pub lesser : CapabilityRow → Option CapabilityRow → Option CapabilityRow
lesser row None = Some row
lesser row (Some other) = if is_before row.cspace.0 row.slot other then Some row else Some other

abbrev pub least : List CapabilityRow → Option CapabilityRow
least [] = None
least (row ∷ rows) = lesser row (least rows)

-- the capabilities of an object that are valid and not its master, and the one in the least slot
abbrev pub plain_caps : State → ℕ → List CapabilityRow
plain_caps s object = filter (is_plain_of object) s.caps

abbrev pub next_part : State → ℕ → Option CapabilityRow
next_part s object = least (plain_caps s object)

-- the object of a revoke
abbrev pub object_revoked : Current → ℕ
object_revoked call = option_map_or (λ (seen : Seen). (granted seen.word).0) (slice_get call.seen 0) 0

-- a revoke of this object that isn't refused for another cause goes on
abbrev pub goes_on : Verdict → Bool
goes_on (Done new reply) = false
goes_on (Refused reply) = slice_index reply.x 0 == 0

abbrev pub part_of : ℕ → Current → CapabilityRow → Entry
part_of at call row = Part (cpu_no at) call.given.number row.cspace row.slot

abbrev pub part_at : ℕ → Config → Current → Option CapabilityRow → List Event
part_at at conf call None = []
part_at at conf call (Some row) = committing at (part_of at call row) conf

abbrev pub part_by : ℕ → Config → Option Current → List Event
part_by at conf None = []
part_by at conf (Some call) =
    if goes_on (judged (present conf) at call)
    then part_at at conf call (next_part (present conf) (object_revoked call)) else []

-- one part, while the revoke goes on
unfoldable pub part : ℕ → Config → List Event
part at conf = part_by at conf (conf.cpu at).current

unfoldable pub parts : ℕ → ℕ → Config → List Event
parts at zero conf = []
parts at (suc more) conf = and_then (part at) (parts at more) conf

-- the act

-- a create and both configure calls sweep first
abbrev pub sweeps : Call → Bool
sweeps (Create partition cspace number) = true
sweeps (ConfigurePartition cap quota) = true
sweeps (ConfigureQueue cap depth size) = true
sweeps _ = false

-- a revoke takes one slot after another, as many as there are
abbrev pub prepares : ℕ → Config → Option Current → List Event
prepares at conf None = []
prepares at conf (Some call) =
    if sweeps call.given.call then sweep at conf
    else (if is_revoke call.given.call
    then parts at (length (plain_caps (present conf) (object_revoked call))) conf else [])

unfoldable pub preparing : ℕ → Config → List Event
preparing at conf = prepares at conf (conf.cpu at).current

-- then an act that is done has its entry
abbrev pub acts : ℕ → Config → Option Current → List Event
acts at conf None = []
acts at conf (Some call) =
    if is_done (judged (present conf) at call)
    then committing at (Acted (cpu_no at) call.given.number) conf else []

unfoldable pub acting : ℕ → Config → List Event
acting at conf = acts at conf (conf.cpu at).current

unfoldable pub taking : ℕ → Config → List Event
taking at conf = Take (cpu_no at) ∷ []

unfoldable pub freeing : ℕ → Config → List Event
freeing at conf = Free (cpu_no at) true ∷ []

-- the whole act: the turn is taken, and given back with the call's end; then the call's pins go
unfoldable pub act : ℕ → Config → List Event
act at =
    and_then (taking at)
    (and_then (preparing at) (and_then (acting at) (and_then (freeing at) (unpins at))))

-- items

-- in its section, a call looks up what it wants next, and leaves once each need has its grant
abbrev pub reads : ℕ → Config → Outcome → List Event
reads at conf (Wants slot need) = Look (cpu_no at) slot ∷ []
reads at conf (Fails errno) = leave at conf
reads at conf Grants = leave at conf

-- the pin on what the last look granted, and the undo of one that came too late
abbrev pub pins_last : ℕ → Option Seen → List Event
pins_last at None = []
pins_last at (Some seen) = Pin (cpu_no at) (index_no (seen_index seen)) false ∷ []

abbrev pub undoes_last : ℕ → Option Seen → List Event
undoes_last at None = []
undoes_last at (Some seen) = Undo (cpu_no at) (index_no (seen_index seen)) ∷ []

abbrev pub item_in : ℕ → Config → Current → Stage → List Event
item_in at conf call Reading = reads at conf (came_to call)
item_in at conf call Looked = pins_last at (last_or None call.seen)
item_in at conf call DeadPin = undoes_last at (last_or None call.seen)
item_in at conf call Undone = leave_ended at conf
item_in at conf call Failed = leave_ended at conf
item_in at conf call AtAct = act at conf

-- between calls the next one begins, where one is given: one that looks up nothing is its act
abbrev pub begins : ℕ → Config → Option Given → List Event
begins at conf None = []
begins at conf (Some given) = if has_needs given then Enter (cpu_no at) ∷ [] else act at conf

abbrev pub item_between : ℕ → Config → List Held → List Event
item_between at conf [] = begins at conf (conf.cpu at).next
item_between at conf (pin ∷ pins) = unpins at conf

abbrev pub item_of : ℕ → Config → Option Current → List Event
item_of at conf None = item_between at conf (conf.cpu at).pins
item_of at conf (Some call) = item_in at conf call call.stage

-- the CPU's next item
unfoldable pub item : Config → ℕ → List Event
item conf at = item_of at conf (conf.cpu at).current

-- a configuration between items: it is sound, each entry that keeps counters keeps nine, objects
-- lie in the blocks of their partitions, and the turn is free
pub record IsSteady (conf : Config) : Type 0 where
  pub sound : IsSound conf
  pub nine : KeepsNine conf.history
  pub blocks : HasBlocks conf
  pub free : conf.turn ≡ None
