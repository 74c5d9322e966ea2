use Rattle.gh_events.proofs.BoundKeeps.{event_bounded}
use Rattle.gh_events.proofs.bounds.events_keep_bounded.Goals as goal

pub returns : goal.returns
returns c = λ conf event bounded may. event_bounded conf event bounded may
