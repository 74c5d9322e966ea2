use Rattle.gh_events.proofs.GraceEvents.{unpin_graced}
use Rattle.gh_events.proofs.grace.unpin_keeps_grace.Goals as goal

pub returns : goal.returns
returns c = λ conf cpu object graced may. unpin_graced conf cpu.0 object.0 graced may
