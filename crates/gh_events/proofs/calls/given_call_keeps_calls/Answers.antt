-- The law is the lemma.
use Rattle.gh_events.proofs.GivenCalls.{given_keeps_calls}
use Rattle.gh_events.proofs.calls.given_call_keeps_calls.Goals as goal

pub returns : goal.returns
returns c = λ conf at number frame sound may. given_keeps_calls conf at number frame sound may
