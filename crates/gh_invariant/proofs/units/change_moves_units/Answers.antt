-- The law is the lemma of each change.
use Rattle.gh_invariant.proofs.UnitsOfChange.{units_moved}
use Rattle.gh_invariant.proofs.units.change_moves_units.Goals as goal

pub returns : goal.returns
returns c = λ last s change partition valid. units_moved last s change partition valid
