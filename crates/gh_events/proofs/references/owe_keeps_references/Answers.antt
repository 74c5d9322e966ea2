use Rattle.gh_events.proofs.OweKeeps.{owe_keeps}
use Rattle.gh_events.proofs.references.owe_keeps_references.Goals as goal

pub returns : goal.returns
returns c = λ conf cpu object sound may. owe_keeps conf cpu.0 object.0 sound may
