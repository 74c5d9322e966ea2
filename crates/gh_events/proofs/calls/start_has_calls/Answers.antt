-- The law is the lemma.
use Rattle.gh_events.proofs.StartCalls.{file_calls}
use Rattle.gh_events.proofs.calls.start_has_calls.Goals as goal

pub returns : goal.returns
returns c = λ lines index. file_calls lines index
