-- The item of a call that was refused or is dying is its end.
use Rattle.std.proofs.Common.{◌≡◌, inl, inr, ap, subst, sym}
use Rattle.gh_events.specs.Config.{Config}
use Rattle.gh_schedules.specs.Items.{item, leave_ended}
use Rattle.gh_core.specs.Running.{current_of, stage_of}
use Rattle.gh_schedules.specs.Trace.{after_all}
use Rattle.gh_items.specs.Stands.{Stands}
use Rattle.gh_items.proofs.ItemLemmas.{ends_failed, ends_undone}
use Rattle.gh_items.proofs.SeatLemmas.{current_is, if_ok}
use Rattle.gh_items.proofs.section.end_of_section.Goals as goal

pub returns-clause-stands : goal.returns-clause-stands
returns-clause-stands g c =
    let now = current_is c.args.progress.now g.conf c.args.cpu.0 c.args.call.now c.requires.0 c.requires.1.1.0 in
    let same : after_all g.conf (item g.conf c.args.cpu.0) ≡ after_all g.conf (leave_ended c.args.cpu.0 g.conf) =
    elim c.requires.1.1.1 as (λ _. after_all g.conf (item g.conf c.args.cpu.0) ≡ after_all g.conf (leave_ended c.args.cpu.0 g.conf)) [
      | inl undone ↦ ends_undone g.conf c.args.cpu.0 (current_of c.args.call.now) now (ap stage_of undone)
      | inr failed ↦ ends_failed g.conf c.args.cpu.0 (current_of c.args.call.now) now (ap stage_of failed)
    ] in
    if_ok c.leave_ended.result (λ stood. subst (λ (conf : Config). Stands c.leave_ended.new.progress conf) (sym same) stood) c.leave_ended.ensures.stands
