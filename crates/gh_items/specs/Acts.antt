-- What the act of a call does to a run's progress: an entry of the history, and the call's end.
use Rattle.std.specs.Prelude.{◌≡◌, ◌<◌, ℕ, [], ◌∷◌, ◌++◌, Some}
use Rattle.gh_base.specs.declared.limits.TheConstants.{CPUS}
use Rattle.gh_base.specs.declared.mark.End.TheVariants as ends
use Rattle.gh_schedules.specs.Committing.{cpu_no}
use Rattle.gh_events.specs.Config.{Config, Current}
use Rattle.gh_schedules.specs.Items.{IsSteady, acting, freeing, preparing, taking, unpins}
use Rattle.gh_schedules.specs.Trace.{after_all, and_then}
use Rattle.gh_events.specs.TurnEvents.{ready}
use Rattle.gh_core.specs.declared.current.CallStage.TheVariants as stages
use Rattle.gh_core.specs.declared.current.CurrentCall.{CurrentCall}
use Rattle.gh_core.specs.declared.current.GivenCall.{GivenCall}
use Rattle.gh_items.specs.Stands.{with_end}
use Rattle.gh_items.specs.declared.progress.Progress.{Progress}
use Rattle.gh_items.specs.declared.progress.Seat.{Seat}
use Rattle.gh_model.specs.declared.entry.Entry.{Entry}
use Rattle.gh_model.specs.declared.entry.Entry.TheVariants.{Acted}
use Rattle.gh_model.specs.declared.plain.Judged.{Judged}
use Rattle.gh_model.specs.declared.plain.Judged.TheVariants as says
use Rattle.gh_model.specs.declared.state.State.{State}

-- the progress in another state
abbrev pub in_state : Progress → State → Progress
in_state progress new = record progress { plain = new }

-- the progress with one more entry of the history
abbrev pub with_entry : Progress → Entry → Progress
with_entry progress entry = record progress { entries = progress.entries ++ entry ∷ [] }

-- the entry of a call's act
abbrev pub act_entry : ℕ → CurrentCall → Entry
act_entry at call = Acted (cpu_no at) call.given.number

-- a call that looks up no capability is at its act from its begin
abbrev pub lookless_call : GivenCall → CurrentCall
lookless_call call = record { given = call; section = 0; seen = []; stage = stages.AtAct }

-- an act that is done is the call's entry, and one that is refused ends the call where it was
-- judged
abbrev pub with_judged : Progress → ℕ → Seat → CurrentCall → Judged → Progress
with_judged progress at seat call (says.Done reply) =
    with_end (with_entry progress (act_entry at call)) at seat call
    (ends.Entry progress.plain.entries) reply
with_judged progress at seat call (says.Refused reply) =
    with_end progress at seat call (ends.Act progress.plain.entries) reply

-- the configuration behind the act's entry, the end of the turn and that of the call's pins
abbrev pub after_judged : Config → ℕ → Config
after_judged conf at =
    after_all conf (and_then (acting at) (and_then (freeing at) (unpins at)) conf)

-- the configuration in which the act is judged: the turn is taken, and the sweep or the parts are
-- made
abbrev pub judged_in : Config → ℕ → Config
judged_in conf at = after_all conf (and_then (taking at) (preparing at) conf)

-- a CPU's call is at its act in a steady configuration
pub record ActsNext (conf : Config) (at : ℕ) (call : Current) : Type 0 where
  pub steady : IsSteady conf
  pub is_cpu : at < CPUS
  pub is_ready : ready (conf.cpu at) ≡ Some call
