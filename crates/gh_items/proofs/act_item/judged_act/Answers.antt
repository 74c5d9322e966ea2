-- The seat has room for the call, and the call ends as its act was judged.
use Rattle.std.proofs.Common.{◌∙◌, ap, subst, sym}
use Rattle.gh_schedules.specs.Items.{act}
use Rattle.gh_core.specs.Running.{current_of}
use Rattle.gh_schedules.specs.Trace.{after_all}
use Rattle.gh_items.specs.Acts.{judged_in, with_judged}
use Rattle.gh_items.specs.Stands.{Stands}
use Rattle.gh_items.specs.declared.progress.Progress.{Progress}
use Rattle.gh_items.proofs.ActLemmas.{entries_few, judged_stands, prepared}
use Rattle.gh_items.proofs.LeaveLemmas.{calls_few, sections_few}
use Rattle.gh_items.proofs.SeatLemmas.{if_ok}
use Rattle.gh_items.proofs.MarkLemmas.{from_same, judged_adds}
use Rattle.gh_items.proofs.act_item.judged_act.Goals as goal

pub judge-requires : goal.judge-requires
judge-requires g c =
    entries_few c.args.progress.now g.conf c.args.cpu.0 c.args.call.now c.requires.1.0 c.requires.0 c.seat_of-seat.result c.seat_of-seat.ensures c.requires.1.1

pub end_judged-requires-clause-counts : goal.end_judged-requires-clause-counts
end_judged-requires-clause-counts g c =
    calls_few c.args.progress.now (judged_in g.conf c.args.cpu.0) c.args.cpu.0 c.args.call.now c.requires.0 c.requires.1.0.is_cpu c.seat_of-seat.result
    c.seat_of-seat.ensures (prepared g.conf c.args.cpu.0 (current_of c.args.call.now) c.requires.1.0).judges.active.sound

pub end_judged-requires-clause-sections : goal.end_judged-requires-clause-sections
end_judged-requires-clause-sections g c =
    sections_few c.args.progress.now (judged_in g.conf c.args.cpu.0) c.args.cpu.0 c.args.call.now c.requires.0 c.requires.1.0.is_cpu c.seat_of-seat.result
    c.seat_of-seat.ensures (prepared g.conf c.args.cpu.0 (current_of c.args.call.now) c.requires.1.0).judges.active.sound

pub returns-clause-stands : goal.returns-clause-stands
returns-clause-stands g c =
    if_ok c.end_judged.result
    (λ made.
    subst (λ (p : Progress). Stands p (after_all g.conf (act c.args.cpu.0 g.conf)))
    (sym (made ∙ ap (λ (p : Progress). with_judged p c.args.cpu.0 c.seat_of-seat.result c.args.call.now c.in_ok-judged.judged) c.in_ok-judged.ensures.same))
    (judged_stands c.args.progress.now g.conf c.args.cpu.0 c.args.call.now c.requires.1.0 c.requires.0 c.seat_of-seat.result c.seat_of-seat.ensures c.requires.1.1
    c.in_ok-judged.judged c.judge.new.progress.plain c.in_ok-judged.ensures.judged))
    c.end_judged.ensures

pub returns-clause-marks : goal.returns-clause-marks
returns-clause-marks g c =
    if_ok c.end_judged.result
    (λ made.
    from_same c.args.progress.now.marks c.judge.new.progress.marks _ (ap (λ (p : Progress). p.marks) c.in_ok-judged.ensures.same)
    (judged_adds c.judge.new.progress _ c.args.cpu.0 c.requires.1.0.is_cpu c.seat_of-seat.result c.args.call.now c.in_ok-judged.judged made))
    c.end_judged.ensures
