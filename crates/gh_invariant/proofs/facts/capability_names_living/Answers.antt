-- The law is the lemma.
use Rattle.gh_invariant.proofs.FactLemmas.{names_living}
use Rattle.gh_invariant.proofs.facts.capability_names_living.Goals as goal

pub returns : goal.returns
returns c = λ s cspace slot row valid found good. names_living s valid cspace slot row found good
