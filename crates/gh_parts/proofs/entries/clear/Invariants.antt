-- One less is taken each time.
use Rattle.std.proofs.Common.{length}
use Rattle.gh_parts.proofs.entries.clear.Given as goal

abbrev pub decreases-loop : goal.decreases-loop
decreases-loop l = length l.taken
