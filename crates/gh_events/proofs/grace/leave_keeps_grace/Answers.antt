use Rattle.gh_events.proofs.GraceEvents.{leave_graced}
use Rattle.gh_events.proofs.grace.leave_keeps_grace.Goals as goal

pub returns : goal.returns
returns c = λ conf cpu graced may. leave_graced conf cpu.0 graced may
