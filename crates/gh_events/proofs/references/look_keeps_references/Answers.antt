use Rattle.gh_events.proofs.LookKeeps.{look_keeps}
use Rattle.gh_events.proofs.references.look_keeps_references.Goals as goal

pub returns : goal.returns
returns c = λ conf cpu slot sound valid words room may. look_keeps conf cpu.0 slot sound valid words room may
