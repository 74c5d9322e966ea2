-- The law is the lemma of changes in order.
use Rattle.gh_invariant.proofs.ChangesInOrder.{units_all}
use Rattle.gh_invariant.proofs.units.changes_move_units.Goals as goal

pub returns : goal.returns
returns c = λ last s changes partition room valid may. units_all last s changes partition room valid may
