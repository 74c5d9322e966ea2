-- A boot file's state is small, and rings nobody.
use Rattle.gh_model.proofs.Small.{boot_kept}
use Rattle.gh_model.proofs.plain.Plain.boot.Goals as goal

pub invariant_of-result : goal.invariant_of-result
invariant_of-result c = boot_kept c.in_ok-state.state c.args.boot.now c.in_ok-state.ensures c.lines-lines.ensures.fits
