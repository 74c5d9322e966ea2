use Rattle.gh_events.proofs.PinKeeps.{pin_keeps}
use Rattle.gh_events.proofs.references.pin_keeps_references.Goals as goal

pub returns : goal.returns
returns c = λ conf cpu object sound may. pin_keeps conf cpu.0 object.0 sound may
