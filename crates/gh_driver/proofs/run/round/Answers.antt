-- Each turn leads to the next.
use Rattle.std.proofs.Common.{◌≡◌, arith, subst}
use Rattle.gh_base.specs.declared.limits.TheConstants.{CPUS}
use Rattle.gh_driver.specs.Follows.{Follows}
use Rattle.gh_driver.proofs.RoundLemmas.{turns, turns_more}
use Rattle.gh_driver.proofs.run.round.Goals as goal

pub loop-at-preserved : goal.loop-at-preserved
loop-at-preserved g c = record {
  follows = subst (λ course. Follows g.P.Program.wants_reply c.call.new.run course) (turns_more g.P.Program.answer g.P.Program.after g.course c.loop-at.at) c.in_ok-call.ensures;
}

pub returns : goal.returns
returns g c =
    subst (λ n. Follows g.P.Program.wants_reply c.loop-at.run (turns g.P.Program.answer g.P.Program.after g.course n))
    (let all : c.loop-at.at ≡ CPUS = omega (arith, c.loop-at.auto.at-end, c.loop-at-test.false) in all)
    c.loop-at.invariant.follows
