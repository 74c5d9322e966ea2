-- The law is the lemma.
use Rattle.gh_events.proofs.PinCalls.{pin_keeps_calls}
use Rattle.gh_events.proofs.calls.pin_keeps_calls.Goals as goal

pub returns : goal.returns
returns c = λ conf cpu object sound refs past may. pin_keeps_calls conf cpu.0 object.0 sound refs past may
