use Rattle.gh_events.proofs.KillKeeps.{kill_keeps}
use Rattle.gh_events.proofs.references.kill_keeps_references.Goals as goal

pub returns : goal.returns
returns c = λ conf cpu object sound may. kill_keeps conf cpu.0 object.0 sound may
