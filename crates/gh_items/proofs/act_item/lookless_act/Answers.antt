-- The call is at its act where the turn is taken, and it doesn't sweep.
use Rattle.std.proofs.Common.{◌≡◌, Some, false, subst, sym}
use Rattle.gh_schedules.specs.Items.{sweeps}
use Rattle.gh_core.specs.Running.{current_of}
use Rattle.gh_events.specs.Start.{given as given_next}
use Rattle.gh_events.specs.TurnEvents.{taken}
use Rattle.gh_core.specs.declared.current.CurrentCall.{CurrentCall}
use Rattle.gh_items.specs.Acts.{ActsNext}
use Rattle.gh_items.specs.Stands.{Stands, with_call}
use Rattle.gh_items.proofs.LooklessLemmas.{lookless_stands, lookless_unswept}
use Rattle.gh_items.proofs.act_item.lookless_act.Goals as goal

pub unswept_act-requires : goal.unswept_act-requires
unswept_act-requires g c =
    subst (λ (call : CurrentCall).
    Stands (with_call c.args.progress.now c.args.cpu.0 (Some call)) (taken (given_next g.conf c.args.cpu.0 call.given.number call.given.frame) c.args.cpu.0)
    × (ActsNext (given_next g.conf c.args.cpu.0 call.given.number call.given.frame) c.args.cpu.0 (current_of call) × (sweeps call.given.call ≡ false)))
    (sym c.lookless_call-call.ensures) (
      lookless_stands c.args.progress.now g.conf c.requires.0 c.args.cpu.0 c.requires.1.1.1.1.is_cpu c.args.given c.requires.1.0 c.requires.1.1.0 c.requires.1.1.1.0,
      (c.requires.1.1.1.1, lookless_unswept c.args.given.call c.requires.1.1.1.0),
    )
