-- The walk begins at the boot.
use Rattle.gh_schedules.specs.Schedule.{boot_start}
use Rattle.worked_items.proofs.walk.run_along.Given as goal

abbrev pub ghost-run_from : goal.ghost-run_from
ghost-run_from a = boot_start a.boot.now
