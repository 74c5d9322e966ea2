use Rattle.gh_events.proofs.TurnKeeps.{quit_keeps}
use Rattle.gh_events.proofs.references.quit_keeps_references.Goals as goal

pub returns : goal.returns
returns c = λ conf cpu sound may. quit_keeps conf cpu.0 sound may
