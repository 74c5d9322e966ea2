-- The law is the lemma.
use Rattle.gh_invariant.proofs.GrantsStay.{found_grant}
use Rattle.gh_invariant.proofs.facts.found_grants_fit.Goals as goal

pub returns : goal.returns
returns c = λ s events cspace slot row needed valid fits found good kinds. found_grant s events cspace slot row needed valid fits found good kinds
