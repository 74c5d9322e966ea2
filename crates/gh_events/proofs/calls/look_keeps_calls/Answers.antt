-- The law is the lemma.
use Rattle.gh_events.proofs.LookCalls.{look_keeps_calls}
use Rattle.gh_events.proofs.calls.look_keeps_calls.Goals as goal

pub returns : goal.returns
returns c = λ conf cpu slot sound valid words room begins may.
    look_keeps_calls conf cpu.0 slot sound valid words room may begins
