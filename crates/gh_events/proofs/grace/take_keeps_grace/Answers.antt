use Rattle.gh_events.proofs.GraceEnds.{take_graced}
use Rattle.gh_events.proofs.grace.take_keeps_grace.Goals as goal

pub returns : goal.returns
returns c = λ conf cpu graced may. take_graced conf cpu.0 graced may
