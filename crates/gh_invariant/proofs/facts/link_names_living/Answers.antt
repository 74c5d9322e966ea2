-- The law is the lemma.
use Rattle.gh_invariant.proofs.FactLemmas.{link_lives}
use Rattle.gh_invariant.proofs.facts.link_names_living.Goals as goal

pub returns : goal.returns
returns c = λ s test row valid found. link_lives s valid test row found
