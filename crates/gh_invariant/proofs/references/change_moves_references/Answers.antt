-- The law is the lemma of each change.
use Rattle.gh_invariant.proofs.ReferencesLaw.{moves}
use Rattle.gh_invariant.proofs.references.change_moves_references.Goals as goal

pub returns : goal.returns
returns c = λ last s change object some valid may. moves last s valid object change some may
