-- The call begins, in the section that the configuration's CPU comes to.
use Rattle.std.proofs.Common.{◌∙◌, ap, subst, sym, Some}
use Rattle.gh_events.specs.CallEvents.{entered}
use Rattle.gh_events.specs.Start.{given as given_next}
use Rattle.gh_core.specs.declared.current.CurrentCall.{CurrentCall}
use Rattle.gh_items.specs.Stands.{Stands, with_call}
use Rattle.gh_items.specs.declared.progress.Progress.{Progress}
use Rattle.gh_items.proofs.EnterLemmas.{enter_stands}
use Rattle.gh_items.proofs.call_items.enter.Goals as goal

pub returns-clause-stands : goal.returns-clause-stands
returns-clause-stands g c =
    subst (λ (p : Progress). Stands p (entered (given_next g.conf c.args.cpu.0 c.args.given.number c.args.given.frame) c.args.cpu.0))
    (sym (c.put_call.ensures ∙ ap (λ (call : CurrentCall). with_call c.args.progress.now c.args.cpu.0 (Some call)) c.begun-call.ensures))
    (enter_stands c.args.progress.now g.conf c.requires.0 c.requires.1.0 c.args.cpu.0 c.requires.1.1.0 c.args.given c.requires.1.1.1.0
    c.requires.1.1.1.1.0 c.seat_of-seat.result c.seat_of-seat.ensures)
