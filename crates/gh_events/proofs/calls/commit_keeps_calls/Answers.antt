-- The law is the lemma.
use Rattle.gh_events.proofs.PartCalls.{commit_keeps_calls}
use Rattle.gh_events.proofs.calls.commit_keeps_calls.Goals as goal

pub returns : goal.returns
returns c = λ conf cpu entry sound refs graced state fit may. commit_keeps_calls conf cpu.0 entry record { sound = sound; refs = refs; graced = graced; state = state; fit = fit } may
