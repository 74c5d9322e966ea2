-- No reference came, so none is there.
use Rattle.std.proofs.Common.{arith}
use Rattle.gh_invariant.proofs.ChangesInOrder.{references_all}
use Rattle.gh_invariant.proofs.references.doomed_stays.Goals as goal

pub returns : goal.returns
returns c = λ last s changes object some room valid may none ungained. omega (arith, references_all last s changes object some room valid may, none, ungained)
