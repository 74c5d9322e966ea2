use Rattle.gh_events.proofs.ValidEvents.{start_valid}
use Rattle.gh_events.proofs.validity.start_is_valid.Goals as goal

pub returns : goal.returns
returns c = λ lines index fit. start_valid lines index fit
