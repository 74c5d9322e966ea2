-- The law is the lemma.
use Rattle.gh_events.proofs.HolderCalls.{quit_keeps_calls}
use Rattle.gh_events.proofs.calls.quit_keeps_calls.Goals as goal

pub returns : goal.returns
returns c = λ conf cpu sound may. quit_keeps_calls conf cpu.0 sound may
