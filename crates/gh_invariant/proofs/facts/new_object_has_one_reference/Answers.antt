-- The law is the lemma.
use Rattle.gh_invariant.proofs.GrantsStay.{created_once}
use Rattle.gh_invariant.proofs.facts.new_object_has_one_reference.Goals as goal

pub returns : goal.returns
returns c = λ s row cap valid may named home. created_once s row cap valid may named home
