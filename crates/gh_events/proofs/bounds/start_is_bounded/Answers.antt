use Rattle.gh_events.proofs.BoundKeeps.{start_bounded}
use Rattle.gh_events.proofs.bounds.start_is_bounded.Goals as goal

pub returns : goal.returns
returns c = λ boot index few. start_bounded boot index few
