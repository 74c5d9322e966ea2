-- Each round leads to the next, and none does anything once all have ended.
use Rattle.std.proofs.Common.{◌∙◌, arith, subst, sym}
use Rattle.gh_model.specs.Program.{last_number}
use Rattle.gh_driver.specs.Follows.{Follows}
use Rattle.gh_driver.proofs.FollowLemmas.{going_is}
use Rattle.gh_driver.proofs.RoundLemmas.{rounds_more, rounds_none, rounds_still}
use Rattle.gh_driver.proofs.run.run_rounds.Goals as goal

pub loop-done-init : goal.loop-done-init
loop-done-init g c = record {
  follows = subst (λ course. Follows g.P.Program.wants_reply c.args.run.now course) (sym (rounds_none g.P.Program.answer g.P.Program.after g.course)) c.requires.1;
}

pub returns-then-all_ended : goal.returns-then-all_ended
returns-then-all_ended g c =
    subst (λ course. Follows g.P.Program.wants_reply c.loop-done.run course)
    (rounds_still g.P.Program.answer g.P.Program.after g.course c.loop-done.done last_number (omega (arith, c.loop-done.auto.done-end))
    (λ at within. sym (going_is g.P.Program.wants_reply c.loop-done.run _ c.loop-done.invariant.follows at within) ∙ c.all_ended.ensures c.if-all_ended.true at within))
    c.loop-done.invariant.follows

pub loop-done-preserved : goal.loop-done-preserved
loop-done-preserved g c = record {
  follows = subst (λ course. Follows g.P.Program.wants_reply c.round.new.run course) (rounds_more g.P.Program.answer g.P.Program.after c.loop-done.done g.course) c.in_ok-round.ensures;
}
