use Rattle.gh_events.proofs.UndoKeeps.{undo_keeps}
use Rattle.gh_events.proofs.references.undo_keeps_references.Goals as goal

pub returns : goal.returns
returns c = λ conf cpu object sound may. undo_keeps conf cpu.0 object.0 sound may
