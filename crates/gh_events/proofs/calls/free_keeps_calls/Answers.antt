-- The law is the lemma.
use Rattle.gh_events.proofs.FreeCalls.{free_keeps_calls}
use Rattle.gh_events.proofs.calls.free_keeps_calls.Goals as goal

pub returns : goal.returns
returns c = λ conf cpu sound refs valid saw may.
    free_keeps_calls conf cpu.0 sound refs valid saw may
