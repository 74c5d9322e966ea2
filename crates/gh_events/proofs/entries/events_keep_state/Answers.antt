use Rattle.gh_events.proofs.StateKeeps.{event_keeps_state}
use Rattle.gh_events.proofs.entries.events_keep_state.Goals as goal

pub returns : goal.returns
returns c = λ conf event state may. event_keeps_state conf event state may
