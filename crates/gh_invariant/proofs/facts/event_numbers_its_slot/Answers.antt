-- The law is the lemma.
use Rattle.gh_invariant.proofs.EventWords.{event_numbers}
use Rattle.gh_invariant.proofs.facts.event_numbers_its_slot.Goals as goal

pub returns : goal.returns
returns c = λ s event cspace slot valid fits is set. event_numbers s event cspace slot valid fits is set
