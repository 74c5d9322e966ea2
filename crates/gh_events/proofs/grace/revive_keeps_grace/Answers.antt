use Rattle.gh_events.proofs.GraceTurn.{revive_graced}
use Rattle.gh_events.proofs.grace.revive_keeps_grace.Goals as goal

pub returns : goal.returns
returns c = λ conf cpu object count graced may. revive_graced conf cpu.0 object.0 count may graced
