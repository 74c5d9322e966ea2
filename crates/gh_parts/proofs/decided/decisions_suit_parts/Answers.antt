-- The law is a lemma.
use Rattle.gh_parts.proofs.DecidedLemmas.{decision_suits}
use Rattle.gh_parts.proofs.decided.decisions_suit_parts.Goals as goal

pub returns : goal.returns
returns c = decision_suits
