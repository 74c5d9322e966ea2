-- The law is the lemma.
use Rattle.gh_invariant.proofs.BootGains.{boot_refers}
use Rattle.gh_invariant.proofs.boot.boot_references_are_gains.Goals as goal

pub returns : goal.returns
returns c = λ lines object fit some. boot_refers lines object fit some
