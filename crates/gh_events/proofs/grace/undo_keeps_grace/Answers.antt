use Rattle.gh_events.proofs.GraceEvents.{undo_graced}
use Rattle.gh_events.proofs.grace.undo_keeps_grace.Goals as goal

pub returns : goal.returns
returns c = λ conf cpu object graced may. undo_graced conf cpu.0 object.0 graced may
