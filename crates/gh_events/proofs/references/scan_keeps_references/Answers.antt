use Rattle.gh_events.proofs.TurnKeeps.{scan_keeps}
use Rattle.gh_events.proofs.references.scan_keeps_references.Goals as goal

pub returns : goal.returns
returns c = λ conf cpu of_cpu sound may. scan_keeps conf of_cpu.0 sound
