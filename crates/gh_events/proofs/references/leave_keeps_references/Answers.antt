use Rattle.gh_events.proofs.LeaveKeeps.{leave_keeps}
use Rattle.gh_events.proofs.references.leave_keeps_references.Goals as goal

pub returns : goal.returns
returns c = λ conf cpu sound may. leave_keeps conf cpu.0 sound may
