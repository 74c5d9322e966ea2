-- The call has its end, and its CPU's counts have room for it.
use Rattle.std.proofs.Common.{◌∙◌, subst, sym}
use Rattle.gh_schedules.specs.Items.{leave_ended}
use Rattle.gh_schedules.specs.Trace.{after_all}
use Rattle.gh_items.specs.Stands.{Stands, with_end}
use Rattle.gh_items.specs.declared.progress.Progress.{Progress}
use Rattle.gh_items.proofs.LeaveLemmas.{calls_few, leave_ended_stands, sections_few}
use Rattle.gh_items.proofs.SeatLemmas.{if_ok}
use Rattle.gh_items.proofs.MarkLemmas.{end_adds}
use Rattle.gh_items.proofs.leave_item.leave_ended.Goals as goal

pub end_call-requires-clause-counts : goal.end_call-requires-clause-counts
end_call-requires-clause-counts g c =
    calls_few c.args.progress.now g.conf c.args.cpu.0 c.args.call.now c.requires.0 c.requires.1.1.0 c.seat_of-seat.result c.seat_of-seat.ensures c.requires.1.0

pub end_call-requires-clause-sections : goal.end_call-requires-clause-sections
end_call-requires-clause-sections g c =
    sections_few c.args.progress.now g.conf c.args.cpu.0 c.args.call.now c.requires.0 c.requires.1.1.0 c.seat_of-seat.result c.seat_of-seat.ensures c.requires.1.0

pub returns-clause-stands : goal.returns-clause-stands
returns-clause-stands g c =
    if_ok c.end_call.result
    (λ made.
    subst (λ (p : Progress). Stands p (after_all g.conf (leave_ended c.args.cpu.0 g.conf)))
    (sym (made
    ∙ (λ i. with_end c.args.progress.now c.args.cpu.0 c.seat_of-seat.result c.args.call.now (c.requires.1.1.1.1.0 i) (c.requires.1.1.1.1.1 i))))
    (leave_ended_stands c.args.progress.now g.conf c.args.cpu.0 c.args.call.now c.requires.0 c.requires.1.1.0 c.seat_of-seat.result c.seat_of-seat.ensures
    c.requires.1.1.1.0))
    c.end_call.ensures

pub returns-clause-marks : goal.returns-clause-marks
returns-clause-marks g c =
    if_ok c.end_call.result
    (λ made. end_adds c.args.progress.now _ c.args.cpu.0 c.requires.1.1.0 c.seat_of-seat.result c.args.call.now c.args.end c.args.reply made) c.end_call.ensures
