-- A call in progress goes on by its next item; without one the next call begins.
use Rattle.std.proofs.Common.{◌∙◌, subst, sym}
use Rattle.gh_driver.specs.Follows.{Tracks}
use Rattle.gh_driver.proofs.FollowLemmas.{busy_advanced, busy_goes, busy_program, item_tracks, next_free, ok_anyway, two_ok}
use Rattle.gh_driver.proofs.call.advance_program.Goals as goal

pub returns-then-has_call-clause-tracks : goal.returns-then-has_call-clause-tracks
returns-then-has_call-clause-tracks g c =
    two_ok c.next_item.result
    (λ stands adds.
    subst (λ course. Tracks c.next_item.new.progress course)
    (busy_advanced g.P.Program.answer g.P.Program.after g.P.Program.wants_reply c.args.progress.now g.course c.requires.1.1.0 c.args.cpu c.requires.1.0 c.requires.1.1.1.0 c.requires.1.1.1.1.0
    (sym c.has_call.ensures ∙ c.if-has_call.true))
    (item_tracks g.course c.args.progress.now c.next_item.new.progress c.args.cpu.0 c.requires.1.0 c.requires.1.1.0 stands adds))
    c.next_item.ensures.stands c.next_item.ensures.marks

pub returns-then-has_call-clause-program : goal.returns-then-has_call-clause-program
returns-then-has_call-clause-program g c =
    ok_anyway c.next_item.result
    (c.requires.1.1.1.1.1
    ∙ sym (busy_program g.P.Program.answer g.P.Program.after g.P.Program.wants_reply c.args.progress.now g.course c.requires.1.1.0 c.args.cpu c.requires.1.0 c.requires.1.1.1.0 c.requires.1.1.1.1.0
    (sym c.has_call.ensures ∙ c.if-has_call.true)))

pub returns-then-has_call-clause-next : goal.returns-then-has_call-clause-next
returns-then-has_call-clause-next g c =
    ok_anyway c.next_item.result
    (busy_goes g.P.Program.answer g.P.Program.after g.P.Program.wants_reply c.args.progress.now g.course c.requires.1.1.0 c.args.cpu c.requires.1.0 c.requires.1.1.1.0 c.requires.1.1.1.1.0
    (sym c.has_call.ensures ∙ c.if-has_call.true))

pub begin-requires : goal.begin-requires
begin-requires g c κs within = (
  within,
  (
    c.requires.1.0,
    (
      c.requires.1.1.0,
      (
        c.requires.1.1.1.0,
        (
          next_free g.P.Program.answer g.P.Program.after g.P.Program.wants_reply c.args.progress.now g.course c.requires.1.1.0 c.args.cpu c.requires.1.0 c.requires.1.1.1.0 c.requires.1.1.1.1.0
              (sym c.has_call.ensures ∙ c.if-has_call.false),
          c.requires.1.1.1.1.1,
        ),
      ),
    ),
  ),
)
