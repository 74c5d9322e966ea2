use Rattle.gh_events.proofs.OweKeeps.{settle_keeps}
use Rattle.gh_events.proofs.references.settle_keeps_references.Goals as goal

pub returns : goal.returns
returns c = λ conf cpu object sound may. settle_keeps conf cpu.0 object.0 sound may
