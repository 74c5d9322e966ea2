use Rattle.gh_events.proofs.GraceEvents.{pin_graced}
use Rattle.gh_events.proofs.grace.pin_keeps_grace.Goals as goal

pub returns : goal.returns
returns c = λ conf cpu object graced may. pin_graced conf cpu.0 object.0 graced may
