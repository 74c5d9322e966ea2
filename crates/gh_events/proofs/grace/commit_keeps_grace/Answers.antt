use Rattle.gh_events.proofs.GraceActs.{commit_graced}
use Rattle.gh_events.proofs.grace.commit_keeps_grace.Goals as goal

pub returns : goal.returns
returns c = λ conf cpu entry graced may. commit_graced conf cpu.0 graced entry may
