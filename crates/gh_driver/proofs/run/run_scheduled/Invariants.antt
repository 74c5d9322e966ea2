-- The items begin where the programs do.
use Rattle.gh_driver.proofs.run.run_scheduled.Given as goal

abbrev pub ghost-run_items : goal.ghost-run_items
ghost-run_items g a = g.course
