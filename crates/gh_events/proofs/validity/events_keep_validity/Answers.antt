use Rattle.gh_events.proofs.ValidLaw.{event_keeps_valid}
use Rattle.gh_events.proofs.validity.events_keep_validity.Goals as goal

pub returns : goal.returns
returns c = λ conf event fit may. event_keeps_valid conf event fit may
