use Rattle.gh_events.proofs.TakeKeeps.{end_keeps}
use Rattle.gh_events.proofs.references.end_keeps_references.Goals as goal

pub returns : goal.returns
returns c = λ conf cpu sound may. end_keeps conf cpu.0 sound may
