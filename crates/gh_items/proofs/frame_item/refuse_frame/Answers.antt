-- The refused call is behind the others, and its CPU's counts have room for it.
use Rattle.std.proofs.Common.{subst, sym}
use Rattle.gh_events.specs.Start.{given}
use Rattle.gh_items.specs.Stands.{Stands}
use Rattle.gh_items.specs.declared.progress.Progress.{Progress}
use Rattle.gh_items.proofs.FrameLemmas.{calls_few, refuse_stands}
use Rattle.gh_items.proofs.SeatLemmas.{if_ok}
use Rattle.gh_items.proofs.MarkLemmas.{refused_adds}
use Rattle.gh_items.proofs.frame_item.refuse_frame.Goals as goal

pub end_frame-requires-clause-counts : goal.end_frame-requires-clause-counts
end_frame-requires-clause-counts g c =
    calls_few c.args.progress.now g.conf c.requires.0 c.args.cpu.0 c.requires.1.0 c.args.number c.requires.1.1.0 c.seat_of-seat.result c.seat_of-seat.ensures

pub returns-clause-stands : goal.returns-clause-stands
returns-clause-stands g c =
    if_ok c.end_frame.result
    (λ made.
    subst (λ (p : Progress). Stands p (given g.conf c.args.cpu.0 c.args.number c.args.frame.now)) (sym made)
    (refuse_stands c.args.progress.now g.conf c.requires.0 c.args.cpu.0 c.requires.1.0 c.args.number c.requires.1.1.0 c.seat_of-seat.result
    c.seat_of-seat.ensures c.args.frame.now c.args.errno c.requires.1.1.1))
    c.end_frame.ensures

pub returns-clause-marks : goal.returns-clause-marks
returns-clause-marks g c =
    if_ok c.end_frame.result
    (λ made. refused_adds c.args.progress.now _ c.args.cpu.0 c.requires.1.0 c.seat_of-seat.result c.args.number c.args.frame.now c.args.errno made) c.end_frame.ensures
