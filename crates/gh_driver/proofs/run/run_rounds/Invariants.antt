-- Each round begins where those before it led.
use Rattle.gh_schedules.specs.Schedule.{rounds}
use Rattle.gh_driver.specs.Follows.{Follows}
use Rattle.gh_driver.proofs.run.run_rounds.Given as goal

abbrev pub ghost-round : goal.ghost-round
ghost-round g a = rounds g.P.Program.answer g.P.Program.after a.done g.course

abbrev pub invariant-loop-done : goal.invariant-loop-done
invariant-loop-done g l = record {
  follows : Follows g.P.Program.wants_reply l.run (rounds g.P.Program.answer g.P.Program.after l.done g.course);
}
