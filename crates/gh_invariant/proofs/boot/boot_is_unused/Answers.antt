-- The laws are the lemmas over the lines of a boot file.
use Rattle.gh_invariant.proofs.BootValid.{boot_unretired, boot_running}
use Rattle.gh_invariant.proofs.boot.boot_is_unused.Goals as goal

pub returns-clause-objects : goal.returns-clause-objects
returns-clause-objects c = λ lines object fit. boot_unretired lines object fit

pub returns-clause-cpus : goal.returns-clause-cpus
returns-clause-cpus c = λ lines cpu fit there. boot_running lines cpu fit there
