-- Each item begins where those before it led.
use Rattle.std.proofs.Common.{take}
use Rattle.std.specs.List.{fold}
use Rattle.gh_driver.specs.Follows.{Follows}
use Rattle.gh_schedules.specs.Schedule.{advanced}
use Rattle.gh_driver.proofs.run.run_items.Given as goal

abbrev pub ghost-scheduled_item : goal.ghost-scheduled_item
ghost-scheduled_item g a = fold (advanced g.P.Program.answer g.P.Program.after) g.course (take a.at a.schedule.now)

abbrev pub invariant-loop-at : goal.invariant-loop-at
invariant-loop-at g l = record {
  follows : Follows g.P.Program.wants_reply l.run (fold (advanced g.P.Program.answer g.P.Program.after) g.course (take l.at l.schedule));
}
