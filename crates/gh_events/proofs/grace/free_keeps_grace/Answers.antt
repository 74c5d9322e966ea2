use Rattle.gh_events.proofs.GraceScans.{quit_graced}
use Rattle.gh_events.proofs.GraceEnds.{end_graced}
use Rattle.gh_events.proofs.grace.free_keeps_grace.Goals as goal

pub returns-clause-quit : goal.returns-clause-quit
returns-clause-quit c = λ conf cpu graced may. quit_graced conf cpu.0 graced may

pub returns-clause-end : goal.returns-clause-end
returns-clause-end c = λ conf cpu graced may. end_graced conf cpu.0 graced may
