-- The call opens its section, or makes its act.
use Rattle.std.proofs.Common.{◌≡◌, ◌∙◌, false, subst, sym}
use Rattle.gh_core.specs.Running.{given_of}
use Rattle.gh_events.specs.CallEvents.{has_needs}
use Rattle.gh_events.specs.Config.{Config}
use Rattle.gh_items.specs.Stands.{Stands}
use Rattle.gh_items.proofs.CallingLemmas.{behind_acts, behind_enters, lookless_next}
use Rattle.gh_items.proofs.SeatLemmas.{if_ok}
use Rattle.gh_items.proofs.calling.begin_given.Goals as goal

pub lookless_act-requires : goal.lookless_act-requires
lookless_act-requires g c =
    let lookless : has_needs (given_of c.args.given) ≡ false = sym c.has_needs.ensures ∙ c.if-has_needs.false in (
      c.requires.0,
      (
        c.requires.1.1.1.0,
        (
          c.requires.1.1.1.1,
          (
            lookless,
            lookless_next g.conf c.args.cpu.0 c.args.given.number c.args.given.frame c.requires.1.1.1.0 c.args.given.call c.requires.1.1.1.1
                c.requires.1.0 c.requires.1.1.0 lookless,
          ),
        ),
      ),
    )

pub returns-then-has_needs-clause-stands : goal.returns-then-has_needs-clause-stands
returns-then-has_needs-clause-stands g c =
    subst (λ (conf : Config). Stands c.enter.new.progress conf)
    (sym (behind_enters g.conf c.args.cpu.0 c.args.given.number c.args.given.frame c.requires.1.1.1.0 c.args.given.call c.requires.1.1.1.1
    (sym c.has_needs.ensures ∙ c.if-has_needs.true)))
    c.enter.ensures.stands

pub returns-else-has_needs-clause-stands : goal.returns-else-has_needs-clause-stands
returns-else-has_needs-clause-stands g c =
    if_ok c.lookless_act.result
    (subst (λ (conf : Config). Stands c.lookless_act.new.progress conf)
    (sym (behind_acts g.conf c.args.cpu.0 c.args.given.number c.args.given.frame c.requires.1.1.1.0 c.args.given.call c.requires.1.1.1.1
    (sym c.has_needs.ensures ∙ c.if-has_needs.false))))
    c.lookless_act.ensures.stands
