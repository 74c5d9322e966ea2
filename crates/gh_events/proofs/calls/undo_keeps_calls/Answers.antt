-- The law is the lemma.
use Rattle.gh_events.proofs.CallsGoOn.{undo_keeps_calls}
use Rattle.gh_events.proofs.calls.undo_keeps_calls.Goals as goal

pub returns : goal.returns
returns c = λ conf cpu object sound may. undo_keeps_calls conf cpu.0 object.0 sound may
