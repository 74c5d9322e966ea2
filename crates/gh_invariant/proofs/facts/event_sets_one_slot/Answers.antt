-- The law is the lemma.
use Rattle.gh_invariant.proofs.EventWords.{event_sets_few}
use Rattle.gh_invariant.proofs.facts.event_sets_one_slot.Goals as goal

pub returns : goal.returns
returns c = λ s event. event_sets_few s event
