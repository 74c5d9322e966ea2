use Rattle.gh_events.proofs.GraceGiven.{given_graced}
use Rattle.gh_events.proofs.grace.given_call_keeps_grace.Goals as goal

pub returns : goal.returns
returns c = λ conf at number frame graced may. given_graced conf at number frame graced
