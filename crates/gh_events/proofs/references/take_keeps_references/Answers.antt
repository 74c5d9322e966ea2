use Rattle.gh_events.proofs.TakeKeeps.{take_keeps}
use Rattle.gh_events.proofs.references.take_keeps_references.Goals as goal

pub returns : goal.returns
returns c = λ conf cpu sound may. take_keeps conf cpu.0 sound may
