-- The call goes on from the course, and its first item leads to the others.
use Rattle.gh_schedules.specs.Schedule.{advanced}
use Rattle.gh_driver.proofs.call.call.Given as goal

abbrev pub ghost-advance : goal.ghost-advance
ghost-advance g a = g.course

abbrev pub ghost-finish : goal.ghost-finish
ghost-finish g a = advanced g.P.Program.answer g.P.Program.after g.course a.cpu
