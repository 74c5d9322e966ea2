use Rattle.gh_events.proofs.UnpinKeeps.{unpin_keeps}
use Rattle.gh_events.proofs.references.unpin_keeps_references.Goals as goal

pub returns : goal.returns
returns c = λ conf cpu object sound may. unpin_keeps conf cpu.0 object.0 sound may
