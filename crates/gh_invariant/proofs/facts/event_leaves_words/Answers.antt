-- The law is the lemma.
use Rattle.gh_invariant.proofs.FactLemmas.{event_leaves}
use Rattle.gh_invariant.proofs.facts.event_leaves_words.Goals as goal

pub returns : goal.returns
returns c = λ s event cspace slot left. event_leaves s event cspace slot left
