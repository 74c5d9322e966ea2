use Rattle.gh_events.proofs.GraceScans.{kill_graced}
use Rattle.gh_events.proofs.grace.kill_keeps_grace.Goals as goal

pub returns : goal.returns
returns c = λ conf cpu object sound graced may. kill_graced conf cpu.0 object.0 sound graced may
