-- The law is the lemma of changes in order.
use Rattle.gh_invariant.proofs.ChangesInOrder.{references_all}
use Rattle.gh_invariant.proofs.references.changes_move_references.Goals as goal

pub returns : goal.returns
returns c = λ last s changes object some room valid may. references_all last s changes object some room valid may
