-- The items begin where the programs do, and the rounds behind the items.
use Rattle.gh_driver.specs.FileRun.{file_program}
use Rattle.gh_schedules.specs.Course.{begin}
use Rattle.gh_schedules.specs.Schedule.{boot_start}
use Rattle.gh_driver.proofs.run.run_programs.Given as goal

abbrev pub ghost-run_scheduled : goal.ghost-run_scheduled
ghost-run_scheduled g a = begin (boot_start a.boot.now) (file_program a.files.now)

abbrev pub ghost-run_rounds : goal.ghost-run_rounds
ghost-run_rounds g a = g.course
