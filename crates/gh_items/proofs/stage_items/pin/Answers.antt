-- The pin is too late just where the object is retired.
use Rattle.std.proofs.Common.{◌∙◌, ap, subst, sym}
use Rattle.gh_base.specs.declared.ids.Serial.{Serial}
use Rattle.gh_events.specs.CallEvents.{pinned}
use Rattle.gh_events.specs.Config.{seen_index}
use Rattle.gh_core.specs.Running.{seen_of}
use Rattle.gh_core.specs.declared.current.CallStage.{CallStage}
use Rattle.gh_items.specs.Held.{HeldIn}
use Rattle.gh_items.specs.Stands.{at_stage}
use Rattle.gh_items.proofs.StageLemmas.{dead_is, pin_stands}
use Rattle.gh_items.proofs.stage_items.pin.Goals as goal
use Rattle.gh_model.specs.Act.{granted}
use Rattle.gh_model.specs.Reads.{retired_counters}
use Rattle.gh_model.specs.declared.state.State.{State}

pub returns : goal.returns
returns g c =
    let held = c.requires.0 in
    subst (λ (stage : CallStage). HeldIn g.from (at_stage c.args.call.now stage) (pinned g.from.conf g.from.at (seen_index (seen_of c.args.last))))
    (sym c.pin_stage-call.ensures)
    (pin_stands g.from.progress g.from.conf g.from.at c.args.call.now held.stands held.within held.sound held.free
    c.requires.1.1.0 c.args.last c.requires.1.1.1 c.is_some-dead.result
    (c.is_some-dead.ensures
    ∙ dead_is g.from.progress g.from.conf g.from.at c.args.call.now held.stands held.within held.sound held.free
    c.requires.1.1.0 c.args.last c.requires.1.1.1 c.retired.result
    (c.retired.ensures
    ∙ ap (λ (serial : Serial). retired_counters c.args.plain.now serial.0) c.granted.ensures
    ∙ ap (λ (s : State). retired_counters s (granted c.args.last.word).0) c.requires.1.0)))
