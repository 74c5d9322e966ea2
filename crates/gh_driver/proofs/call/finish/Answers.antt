-- Each item leads to the next.
use Rattle.std.proofs.Common.{subst}
use Rattle.gh_driver.specs.Follows.{Follows}
use Rattle.gh_driver.proofs.CourseLemmas.{items_last}
use Rattle.gh_driver.proofs.FollowLemmas.{none_follow}
use Rattle.gh_driver.proofs.call.finish.Goals as goal

pub loop-made-init : goal.loop-made-init
loop-made-init g c = record { follows = none_follow g.P.Program.wants_reply c.args.run.now g.course c.args.cpu.0 c.requires.1.1 }

pub loop-made-preserved : goal.loop-made-preserved
loop-made-preserved g c = record {
  follows = subst (λ course. Follows g.P.Program.wants_reply c.item.new.run course) (items_last c.loop-made.made g.course c.args.cpu.0) c.in_ok-item.ensures;
}
