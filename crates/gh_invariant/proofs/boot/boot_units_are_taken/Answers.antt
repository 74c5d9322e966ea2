-- The law is the lemma.
use Rattle.gh_invariant.proofs.BootGains.{boot_takes}
use Rattle.gh_invariant.proofs.boot.boot_units_are_taken.Goals as goal

pub returns : goal.returns
returns c = λ lines partition fit. boot_takes lines partition fit
