-- The law is the lemma over the lines of a boot file.
use Rattle.gh_invariant.proofs.BootValid.{boot_valid}
use Rattle.gh_invariant.proofs.boot.boot_is_valid.Goals as goal

pub returns : goal.returns
returns c = λ lines fit. boot_valid lines fit
