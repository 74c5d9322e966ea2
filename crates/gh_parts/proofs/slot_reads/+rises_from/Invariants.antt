-- Fewer slots are left at each step.
use Rattle.std.proofs.Common.{length}
use Rattle.gh_parts.proofs.slot_reads.+rises_from.Given as goal

abbrev pub decreases-rises_from : goal.decreases-rises_from
decreases-rises_from l = length l.taken.now
