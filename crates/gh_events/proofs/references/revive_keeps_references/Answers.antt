use Rattle.gh_events.proofs.ReviveKeeps.{revive_keeps}
use Rattle.gh_events.proofs.references.revive_keeps_references.Goals as goal

pub returns : goal.returns
returns c = λ conf cpu object count sound may. revive_keeps conf cpu.0 object.0 count sound may
