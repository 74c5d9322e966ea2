-- The run of call files is a run.
use Rattle.gh_driver.proofs.FileRunLaw.{file_run_is_run}
use Rattle.gh_driver.proofs.law.file_run_is_legal.Goals as goal

pub returns : goal.returns
returns c = λ none. file_run_is_run c.args.boot.now c.args.schedule.now c.args.files.now c.lines-lines.ensures.fits none
