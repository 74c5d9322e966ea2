-- The law is the lemma.
use Rattle.gh_events.proofs.PartCalls.{set_cap_keeps_calls}
use Rattle.gh_events.proofs.calls.set_cap_keeps_calls.Goals as goal

pub returns : goal.returns
returns c = λ conf cpu entry space slot word sound refs graced state fit may. set_cap_keeps_calls conf cpu.0 entry space.0 slot word record { sound = sound; refs = refs; graced = graced; state = state; fit = fit } may
