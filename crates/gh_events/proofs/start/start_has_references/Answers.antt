use Rattle.gh_events.proofs.StartSound.{start_sound}
use Rattle.gh_events.proofs.start.start_has_references.Goals as goal

-- src/start.rt:10:1
pub returns : goal.returns
returns c = λ boot index indices unretired. start_sound boot index indices unretired
