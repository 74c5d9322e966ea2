-- The law is the lemma of changes in order.
use Rattle.gh_invariant.proofs.ChangesInOrder.{valid_all}
use Rattle.gh_invariant.proofs.validity.changes_keep_valid.Goals as goal

pub returns : goal.returns
returns c = λ last s changes room valid may. valid_all last s changes room valid may
