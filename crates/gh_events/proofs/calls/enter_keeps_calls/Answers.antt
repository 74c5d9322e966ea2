-- The law is the lemma.
use Rattle.gh_events.proofs.CallsGoOn.{enter_keeps_calls}
use Rattle.gh_events.proofs.calls.enter_keeps_calls.Goals as goal

pub returns : goal.returns
returns c = λ conf cpu sound may. enter_keeps_calls conf cpu.0 sound may
