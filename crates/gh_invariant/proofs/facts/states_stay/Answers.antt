-- The law is the lemma.
use Rattle.gh_invariant.proofs.FactLemmas.{state_stays}
use Rattle.gh_invariant.proofs.facts.states_stay.Goals as goal

pub returns : goal.returns
returns c = λ s history more n within. state_stays s history more n within
