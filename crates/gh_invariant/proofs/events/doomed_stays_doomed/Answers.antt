-- The law is the lemma of all entries.
use Rattle.gh_invariant.proofs.EventsKept.{event_doomed}
use Rattle.gh_invariant.proofs.events.doomed_stays_doomed.Goals as goal

pub returns : goal.returns
returns c = λ s event object valid fits some made none. event_doomed s event object valid fits some made none
