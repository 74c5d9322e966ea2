-- The call has the CPU's next number.
use Rattle.std.proofs.Common.{◌+◌, ◌∙◌, arith, length, subst, sym}
use Rattle.gh_events.specs.Config.{Config}
use Rattle.gh_events.specs.Sound.{made_by}
use Rattle.gh_items.specs.Stands.{Stands}
use Rattle.gh_items.proofs.CallingLemmas.{begun_is, behind_refused, may_next}
use Rattle.gh_items.proofs.FrameLemmas.{calls_few}
use Rattle.gh_items.proofs.SeatLemmas.{if_ok}
use Rattle.gh_items.proofs.calling.begin_call.Goals as goal

pub overflow_add-number : goal.overflow_add-number
overflow_add-number g c =
    omega (
      arith,
      calls_few c.args.progress.now g.conf c.requires.0 c.args.cpu.0 c.requires.1.1.0 (length (made_by g.conf c.args.cpu.0) + 1) c.requires.1.1.1
          c.seat_of-seat.result c.seat_of-seat.ensures,
    )

pub refuse_frame-requires : goal.refuse_frame-requires
refuse_frame-requires g c = (
  c.requires.0,
  (
    c.requires.1.1.0,
    (
      may_next c.args.progress.now g.conf c.requires.0 c.args.cpu.0 c.requires.1.1.0 c.seat_of-seat.result c.seat_of-seat.ensures c.requires.1.1.1,
      sym c.read_call.ensures ∙ c.in-Err.is,
    ),
  ),
)

pub begin_given-requires : goal.begin_given-requires
begin_given-requires g c = (
  c.requires.0,
  (
    c.requires.1.0,
    (
      c.requires.1.1.0,
      (
        may_next c.args.progress.now g.conf c.requires.0 c.args.cpu.0 c.requires.1.1.0 c.seat_of-seat.result c.seat_of-seat.ensures c.requires.1.1.1,
        sym c.read_call.ensures ∙ c.in-Ok.is,
      ),
    ),
  ),
)

pub returns-in-Err-clause-stands : goal.returns-in-Err-clause-stands
returns-in-Err-clause-stands g c =
    if_ok c.refuse_frame.result
    (subst (λ (conf : Config). Stands c.refuse_frame.new.progress conf)
    (sym (behind_refused g.conf c.args.cpu.0 (c.seat_of-seat.result.calls + 1) c.args.frame
    (may_next c.args.progress.now g.conf c.requires.0 c.args.cpu.0 c.requires.1.1.0 c.seat_of-seat.result c.seat_of-seat.ensures c.requires.1.1.1)
    c.in-Err.errno (sym c.read_call.ensures ∙ c.in-Err.is))
    ∙ begun_is c.args.progress.now g.conf c.requires.0 c.args.cpu.0 c.requires.1.1.0 c.seat_of-seat.result c.seat_of-seat.ensures c.args.frame))
    c.refuse_frame.ensures.stands

pub returns-in-Ok-clause-stands : goal.returns-in-Ok-clause-stands
returns-in-Ok-clause-stands g c =
    if_ok c.begin_given.result
    (subst (λ (conf : Config). Stands c.begin_given.new.progress conf)
    (begun_is c.args.progress.now g.conf c.requires.0 c.args.cpu.0 c.requires.1.1.0 c.seat_of-seat.result c.seat_of-seat.ensures c.args.frame))
    c.begin_given.ensures.stands
