use Rattle.gh_events.proofs.GraceEvents.{enter_graced}
use Rattle.gh_events.proofs.grace.enter_keeps_grace.Goals as goal

pub returns : goal.returns
returns c = λ conf cpu graced may. enter_graced conf cpu.0 graced may
