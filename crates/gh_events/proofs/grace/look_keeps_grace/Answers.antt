use Rattle.gh_events.proofs.GraceLook.{look_graced}
use Rattle.gh_events.proofs.grace.look_keeps_grace.Goals as goal

pub returns : goal.returns
returns c = λ conf cpu slot sound graced valid may. look_graced conf cpu.0 slot sound graced valid may
