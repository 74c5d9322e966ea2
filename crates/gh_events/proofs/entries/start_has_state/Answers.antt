use Rattle.gh_events.proofs.StateKeeps.{start_keeps_state}
use Rattle.gh_events.proofs.entries.start_has_state.Goals as goal

pub returns : goal.returns
returns c = λ lines index fits indices. start_keeps_state lines index fits indices
