-- The laws are the lemmas.
use Rattle.gh_invariant.proofs.BootValid.{boot_makes, boot_may}
use Rattle.gh_invariant.proofs.boot.boot_changes_make_boot.Goals as goal

pub returns-clause-may : goal.returns-clause-may
returns-clause-may c = λ lines fit. boot_may lines fit

pub returns-clause-make : goal.returns-clause-make
returns-clause-make c = λ lines. boot_makes lines
