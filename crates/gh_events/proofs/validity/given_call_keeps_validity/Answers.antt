use Rattle.gh_events.proofs.ValidEvents.{given_valid}
use Rattle.gh_events.proofs.validity.given_call_keeps_validity.Goals as goal

pub returns : goal.returns
returns c = λ conf at number frame fit may. given_valid conf fit at number frame may
