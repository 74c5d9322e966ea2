-- The parts of a call that revokes the capabilities of an object one slot after another, on a run's
-- progress.
use Rattle.std.specs.Prelude.{ℕ, Bool, true, false, List, length, Option, None, if◌then◌else◌}
use Rattle.gh_schedules.specs.Committing.{cpu_no}
use Rattle.gh_events.specs.Config.{Config, Current, judged, present}
use Rattle.gh_schedules.specs.Items.{goes_on, next_part, object_revoked, parts, plain_caps}
use Rattle.gh_events.specs.Sound.{IsSound}
use Rattle.gh_events.specs.declared.event.Event.{Event}
use Rattle.gh_items.specs.Acts.{in_state, with_entry}
use Rattle.gh_items.specs.Stands.{Stands}
use Rattle.gh_items.specs.declared.progress.Progress.{Progress}
use Rattle.gh_model.specs.History.{parted}
use Rattle.gh_model.specs.declared.change.Decision.{Decision}
use Rattle.gh_model.specs.declared.change.Decision.TheVariants.{Refuse, Unfinished, Make}
use Rattle.gh_model.specs.declared.entry.Entry.TheVariants.{Part}
use Rattle.gh_model.specs.declared.rows.CapabilityRow.{CapabilityRow}
use Rattle.gh_model.specs.declared.state.State.{State}

-- a decision that waits for more parts
abbrev pub is_unfinished : Decision → Bool
is_unfinished (Refuse errno) = false
is_unfinished Unfinished = true
is_unfinished (Make changes reply) = false

-- the progress stands for some sound configuration
pub record StandsSoundly (progress : Progress) : Type 0 where
  pub conf : Config
  pub stands : Stands progress conf
  pub sound : IsSound conf

-- the capability that the next part of a call revokes, while it goes on
abbrev pub part_row : State → ℕ → Current → Option CapabilityRow
part_row s at call = if goes_on (judged s at call) then next_part s (object_revoked call) else None

-- as many parts at most as there are capabilities to revoke
abbrev pub all_parts : ℕ → Current → Config → List Event
all_parts at call conf = parts at (length (plain_caps (present conf) (object_revoked call))) conf

-- the progress behind the part of a call of this number that revokes this capability
abbrev pub with_part : Progress → ℕ → ℕ → CapabilityRow → Progress
with_part progress at number row =
    with_entry (in_state progress (parted progress.plain row.cspace row.slot))
    (Part (cpu_no at) number row.cspace row.slot)
