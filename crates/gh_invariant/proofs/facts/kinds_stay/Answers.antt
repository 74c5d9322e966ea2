-- The law is the lemma.
use Rattle.gh_invariant.proofs.KindsStay.{event_kind}
use Rattle.gh_invariant.proofs.facts.kinds_stay.Goals as goal

pub returns : goal.returns
returns c = λ s event object valid fits made. event_kind s event object valid fits made
