-- All that is referred to lives.
use Rattle.gh_invariant.proofs.NotLiving.{not_living}
use Rattle.gh_invariant.proofs.references.only_living_referenced.Goals as goal

pub returns : goal.returns
returns c = λ last s object some valid gone. not_living last s object some valid gone
