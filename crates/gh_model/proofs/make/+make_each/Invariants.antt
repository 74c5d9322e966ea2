-- Fewer changes are left at each step.
use Rattle.std.proofs.Common.{length}
use Rattle.gh_model.proofs.make.+make_each.Given as goal

abbrev pub decreases-make_each : goal.decreases-make_each
decreases-make_each l = length l.changes
