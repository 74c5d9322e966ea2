use Rattle.gh_events.proofs.GivenKeeps.{given_keeps}
use Rattle.gh_events.proofs.references.given_call_keeps_references.Goals as goal

pub returns : goal.returns
returns c = λ conf at number frame sound may. given_keeps conf at number frame sound
