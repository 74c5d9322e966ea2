-- The rounds begin behind the schedule's items.
use Rattle.gh_callfile.specs.VmProgress.{vm_after, vm_answer}
use Rattle.gh_driver.specs.FileRun.{file_program}
use Rattle.gh_schedules.specs.Schedule.{scheduled}
use Rattle.gh_driver.proofs.run.run_step.Given as goal

abbrev pub ghost-run_programs : goal.ghost-run_programs
ghost-run_programs a = scheduled vm_answer vm_after a.boot.now (file_program a.files.now) a.schedule.now
