use Rattle.gh_events.proofs.BoundKeeps.{objects_bounded}
use Rattle.gh_events.proofs.bounds.objects_are_bounded.Goals as goal

pub returns : goal.returns
returns c = λ conf sound state bounded. objects_bounded conf sound state bounded
