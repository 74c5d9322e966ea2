-- The seat has room for the call, and the call ends as its act was judged.
use Rattle.std.proofs.Common.{◌<◌, ◌∙◌, ℕ, List, ap, length, subst, sym}
use Rattle.gh_core.specs.Running.{current_of}
use Rattle.gh_items.specs.Acts.{judged_in}
use Rattle.gh_items.specs.NewIndex.{place_for}
use Rattle.gh_items.specs.Stands.{noted_in}
use Rattle.gh_model.specs.declared.state.State.{State}
use Rattle.gh_items.specs.declared.progress.Progress.{Progress}
use Rattle.gh_items.proofs.ActLemmas.{prepared}
use Rattle.gh_items.proofs.LeaveLemmas.{calls_few, sections_few}
use Rattle.gh_items.proofs.PartLemmas.{room}
use Rattle.gh_items.proofs.SeatLemmas.{calls_there, if_ok}
use Rattle.gh_items.proofs.SweptLemmas.{done_ends, done_marks, judged_begins, refusal_marks, refused_ends, refused_with, seats_there}
use Rattle.gh_items.proofs.swept_act.swept_judged.Goals as goal
use Rattle.gh_schedules.specs.Causes.{causes_now}

pub judge-requires : goal.judge-requires
judge-requires g c =
    room c.args.progress.now (judged_in g.conf c.args.cpu.0) c.args.cpu.0 c.args.call.now c.requires.0 c.requires.1.0.is_cpu
    (prepared g.conf c.args.cpu.0 (current_of c.args.call.now) c.requires.1.0).judges.active.sound

pub end_refused-requires : goal.end_refused-requires
end_refused-requires g c = (
  refused_with c.args.progress.now g.conf c.args.cpu.0 c.args.call.now c.requires.1.0 c.requires.0 c.seat_of-seat.result c.seat_of-seat.ensures c.requires.1.1
      c.judge.new.progress c.in_ok-judged.judged c.in_ok-judged.ensures.judged c.in_ok-judged.ensures.same c.in-Refused.reply c.in-Refused.is,
  (
    judged_begins g.conf c.args.cpu.0 (current_of c.args.call.now) c.requires.1.0 c.requires.1.1,
    (
      subst (λ (p : Progress). c.args.cpu.0 < length p.seats) (sym c.in_ok-judged.ensures.same)
          (seats_there c.args.progress.now g.conf c.args.cpu.0 c.args.call.now c.requires.1.0 c.requires.0 c.seat_of-seat.result c.seat_of-seat.ensures c.requires.1.1),
      (
        subst (λ (p : Progress). c.args.cpu.0 < length p.calls) (sym c.in_ok-judged.ensures.same)
            (calls_there c.args.progress.now (judged_in g.conf c.args.cpu.0) c.args.cpu.0 c.args.call.now c.requires.0 c.requires.1.0.is_cpu),
        (
          calls_few c.args.progress.now (judged_in g.conf c.args.cpu.0) c.args.cpu.0 c.args.call.now c.requires.0 c.requires.1.0.is_cpu c.seat_of-seat.result
              c.seat_of-seat.ensures (prepared g.conf c.args.cpu.0 (current_of c.args.call.now) c.requires.1.0).judges.active.sound,
          sections_few c.args.progress.now (judged_in g.conf c.args.cpu.0) c.args.cpu.0 c.args.call.now c.requires.0 c.requires.1.0.is_cpu c.seat_of-seat.result
              c.seat_of-seat.ensures (prepared g.conf c.args.cpu.0 (current_of c.args.call.now) c.requires.1.0).judges.active.sound,
        ),
      ),
    ),
  ),
)

pub returns-in-Refused-clause-stands : goal.returns-in-Refused-clause-stands
returns-in-Refused-clause-stands g c =
    if_ok c.end_refused.result
    (λ ends.
    refused_ends c.args.progress.now g.conf c.args.cpu.0 c.args.call.now c.requires.1.0 c.requires.0 c.seat_of-seat.result c.seat_of-seat.ensures c.requires.1.1
    c.judge.new.progress c.in_ok-judged.judged c.in_ok-judged.ensures.judged c.in_ok-judged.ensures.same c.in-Refused.reply c.in-Refused.is
    c.end_refused.new.progress ends)
    c.end_refused.ensures

pub returns-in-Refused-clause-marks : goal.returns-in-Refused-clause-marks
returns-in-Refused-clause-marks g c =
    if_ok c.end_refused.result
    (λ ends.
    refusal_marks c.args.progress.now c.judge.new.progress c.judge.new.progress.plain c.args.cpu.0 c.seat_of-seat.result c.args.call.now
    (causes_now (judged_in g.conf c.args.cpu.0)) c.in-Refused.reply c.end_refused.new.progress c.requires.1.0.is_cpu
    c.in_ok-judged.ensures.same ends)
    c.end_refused.ensures

pub end_done-requires-clause-counts : goal.end_done-requires-clause-counts
end_done-requires-clause-counts g c =
    calls_few c.args.progress.now (judged_in g.conf c.args.cpu.0) c.args.cpu.0 c.args.call.now c.requires.0 c.requires.1.0.is_cpu c.seat_of-seat.result
    c.seat_of-seat.ensures (prepared g.conf c.args.cpu.0 (current_of c.args.call.now) c.requires.1.0).judges.active.sound

pub end_done-requires-clause-sections : goal.end_done-requires-clause-sections
end_done-requires-clause-sections g c =
    sections_few c.args.progress.now (judged_in g.conf c.args.cpu.0) c.args.cpu.0 c.args.call.now c.requires.0 c.requires.1.0.is_cpu c.seat_of-seat.result
    c.seat_of-seat.ensures (prepared g.conf c.args.cpu.0 (current_of c.args.call.now) c.requires.1.0).judges.active.sound

pub returns-in-Done-clause-stands : goal.returns-in-Done-clause-stands
returns-in-Done-clause-stands g c =
    if_ok c.end_done.result
    (λ ends.
    done_ends c.args.progress.now g.conf c.args.cpu.0 c.args.call.now c.requires.1.0 c.requires.0 c.seat_of-seat.result c.seat_of-seat.ensures c.requires.1.1
    c.judge.new.progress c.in_ok-judged.judged c.in_ok-judged.ensures.judged c.in_ok-judged.ensures.same c.in-Done.reply c.in-Done.is
    c.in_ok-index.index c.in_ok-index.ensures c.new_place-place.result
    (c.new_place-place.ensures ∙ ap (λ (s : State). place_for s (noted_in c.as_slice.result.now)) c.state.ensures.state
    ∙ ap (λ (noted : List ℕ). place_for c.args.progress.now.plain (noted_in noted)) c.as_slice.ensures)
    c.end_done.new.progress ends)
    c.end_done.ensures

pub returns-in-Done-clause-marks : goal.returns-in-Done-clause-marks
returns-in-Done-clause-marks g c =
    if_ok c.end_done.result
    (λ ends.
    done_marks c.args.progress.now c.judge.new.progress c.judge.new.progress.plain c.args.cpu.0 c.seat_of-seat.result c.args.call.now
    c.in_ok-index.index c.new_place-place.result c.in-Done.reply c.end_done.new.progress c.requires.1.0.is_cpu
    c.in_ok-judged.ensures.same ends)
    c.end_done.ensures
