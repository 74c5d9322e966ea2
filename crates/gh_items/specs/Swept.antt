-- What the act of a call that sweeps does to a run's progress: the sweep is made before, the object
-- that a create makes has its index, and want of units names what holds objects.
use Rattle.std.specs.Prelude.{◌≡◌, ℕ, [], ◌∷◌, ◌++◌, List, Option, Some, None, slice_get, if◌then◌else◌}
use Rattle.gh_base.specs.declared.call.Call.{Call}
use Rattle.gh_base.specs.declared.frame.Reply.{Reply}
use Rattle.gh_base.specs.declared.ids.ObjIndex.{ObjIndex}
use Rattle.gh_base.specs.declared.mark.End.{End}
use Rattle.gh_base.specs.declared.mark.End.TheVariants as ends
use Rattle.gh_base.specs.declared.mark.Held.{Held}
use Rattle.gh_core.specs.declared.current.CurrentCall.{CurrentCall}
use Rattle.gh_events.specs.Config.{Config, present}
use Rattle.gh_items.specs.Acts.{act_entry, with_entry}
use Rattle.gh_items.specs.Stands.{with_end}
use Rattle.gh_items.specs.SweepReads.{IsMade}
use Rattle.gh_items.specs.declared.progress.Progress.{Progress}
use Rattle.gh_items.specs.declared.progress.Seat.{Seat}
use Rattle.gh_model.specs.Held.{is_held}
use Rattle.gh_model.specs.Legal.{is_short}
use Rattle.gh_model.specs.declared.rows.ObjectRow.{ObjectRow}
use Rattle.gh_schedules.specs.Causes.{count_of, counters_now, held_by}

-- what holds an object, none where it isn't retired and has references
abbrev pub cause_now : Config → ObjectRow → Option Held
cause_now conf row =
    if is_held (present conf) row
    then held_by (counters_now conf) (count_of conf row.serial.0) row row.retired else None

-- each of these objects was made, and lives
abbrev pub AreMade : Config → List ObjectRow → Type 0
AreMade conf rows = (i : ℕ) (row : ObjectRow)
    → slice_get rows i ≡ Some row → IsMade conf row.serial.0

-- the index of an object that was made, if one was, and the place that it is noted with
abbrev pub with_place : Progress → Option ObjIndex → ℕ → Progress
with_place progress None place = progress
with_place progress (Some index) place = record progress {
  places = progress.places ++ index ∷ [];
  noted = progress.noted ++ place ∷ [];
}

-- want of units names what holds objects, and another refusal doesn't
abbrev pub refused_end : Call → Reply → ℕ → List Held → End
refused_end call reply place held =
    if is_short call reply then ends.Short place held else ends.Act place

-- the end of a refused act
abbrev pub with_refusal : Progress → ℕ → Seat → CurrentCall → List Held → Reply → Progress
with_refusal progress at seat call held reply =
    with_end progress at seat call
    (refused_end call.given.call reply progress.plain.entries held) reply

-- the end of one that is done
abbrev pub with_done : Progress → ℕ → Seat → CurrentCall → Option ObjIndex → ℕ → Reply → Progress
with_done progress at seat call index place reply =
    with_end (with_place (with_entry progress (act_entry at call)) index place) at seat call
    (ends.Entry progress.plain.entries) reply
