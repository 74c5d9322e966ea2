-- Each item begins where those before it led.
use Rattle.gh_schedules.specs.Schedule.{with_items}
use Rattle.gh_driver.specs.Follows.{Follows}
use Rattle.gh_driver.proofs.call.finish.Given as goal

abbrev pub ghost-item : goal.ghost-item
ghost-item g a = with_items a.made g.course a.cpu.0

abbrev pub invariant-loop-made : goal.invariant-loop-made
invariant-loop-made g l = record {
  follows : Follows g.P.Program.wants_reply l.run (with_items l.made g.course l.cpu.0);
}
