-- A call that doesn't go on is taken out; where there was none, the progress stays and nothing is next.
use Rattle.std.proofs.Common.{◌≡◌, ◌∙◌, None, Option, Some, ap, subst, sym}
use Rattle.gh_core.specs.declared.current.CurrentCall.{CurrentCall}
use Rattle.gh_events.specs.Config.{Config}
use Rattle.gh_items.specs.Stands.{Stands, with_call}
use Rattle.gh_items.specs.declared.progress.Progress.{Progress}
use Rattle.gh_items.proofs.CallingLemmas.{no_item, taken_stays}
use Rattle.gh_items.proofs.SeatLemmas.{put_twice}
use Rattle.gh_items.proofs.calling.next_item.Goals as goal

pub returns-in-None-clause-stands : goal.returns-in-None-clause-stands
returns-in-None-clause-stands g c =
    let back : c.args.progress.now ≡ with_call c.take_call.new.progress c.args.cpu.0 None =
    c.take_call.ensures.back ∙ ap (λ (call : Option CurrentCall). with_call c.take_call.new.progress c.args.cpu.0 call) c.in-None.is in
    let same : c.args.progress.now ≡ c.take_call.new.progress =
    back ∙ sym (put_twice c.take_call.new.progress c.args.cpu.0 None None)
    ∙ ap (λ (p : Progress). with_call p c.args.cpu.0 None) (sym back) ∙ sym c.take_call.ensures.taken in
    subst (λ (conf : Config). Stands c.take_call.new.progress conf)
    (sym (no_item c.take_call.new.progress g.conf c.args.cpu.0 (subst (λ (p : Progress). Stands p g.conf) back c.requires.0) c.requires.1.1))
    (subst (λ (p : Progress). Stands p g.conf) same c.requires.0)

pub last_item-requires : goal.last_item-requires
last_item-requires g c =
    let back : c.args.progress.now ≡ with_call c.take_call.new.progress c.args.cpu.0 (Some c.in-Some.call) =
    c.take_call.ensures.back ∙ ap (λ (call : Option CurrentCall). with_call c.take_call.new.progress c.args.cpu.0 call) c.in-Some.is in (
      subst (λ (p : Progress). Stands p g.conf) back c.requires.0,
      (
        c.requires.1.0,
        (
          c.requires.1.1,
          taken_stays c.args.progress.now c.take_call.new.progress g.conf c.requires.0 c.args.cpu.0 c.requires.1.1 c.in-Some.call back
              (sym c.cpu_goes_on.ensures ∙ c.if-cpu_goes_on.false),
        ),
      ),
    )
