use Rattle.gh_events.proofs.CallsKeep.{enter_keeps}
use Rattle.gh_events.proofs.references.enter_keeps_references.Goals as goal

pub returns : goal.returns
returns c = λ conf cpu sound may. enter_keeps conf cpu.0 sound may
