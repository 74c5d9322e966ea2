use Rattle.gh_events.proofs.GraceTurn.{start_graced}
use Rattle.gh_events.proofs.grace.start_has_grace.Goals as goal

pub returns : goal.returns
returns c = λ boot index indices unretired. start_graced boot index indices unretired
