-- The law is the lemma of all parts of a valid state.
use Rattle.gh_invariant.proofs.ValidKept.{valid_kept}
use Rattle.gh_invariant.proofs.validity.change_keeps_valid.Goals as goal

pub returns : goal.returns
returns c = λ last s change within valid may. valid_kept last s change within valid may
