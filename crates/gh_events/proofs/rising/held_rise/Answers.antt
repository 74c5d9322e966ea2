use Rattle.gh_events.proofs.RisingRows.{held_rising}
use Rattle.gh_events.proofs.rising.held_rise.Goals as goal

pub returns : goal.returns
returns c = λ s held rising are. held_rising s held rising are
