-- Each item leads to the next.
use Rattle.std.proofs.Common.{subst, sym}
use Rattle.std.specs.List.{fold}
use Rattle.std.proofs.lemmas.List.{take_all}
use Rattle.std.proofs.lemmas.List.Sums.{fold_more}
use Rattle.gh_driver.specs.Follows.{Follows}
use Rattle.gh_schedules.specs.Schedule.{advanced}
use Rattle.gh_driver.proofs.run.run_items.Goals as goal

pub loop-at-preserved : goal.loop-at-preserved
loop-at-preserved g c = record {
  follows = subst (λ course. Follows g.P.Program.wants_reply c.scheduled_item.new.run course)
      (sym (fold_more (advanced g.P.Program.answer g.P.Program.after) g.course c.args.schedule.now c.loop-at.at (record { 0 = 0 }) c.loop-at-test.true))
      c.in_ok-scheduled_item.ensures;
}

pub returns : goal.returns
returns g c =
    subst (λ schedule. Follows g.P.Program.wants_reply c.loop-at.run (fold (advanced g.P.Program.answer g.P.Program.after) g.course schedule))
    (take_all c.loop-at.at c.args.schedule.now c.loop-at-test.false)
    c.loop-at.invariant.follows
