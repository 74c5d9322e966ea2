use Rattle.gh_events.proofs.GraceActs.{set_graced}
use Rattle.gh_events.proofs.grace.set_cap_keeps_grace.Goals as goal

pub returns : goal.returns
returns c = λ conf cpu entry space slot word state graced may. set_graced conf cpu.0 space.0 slot word graced state entry may
