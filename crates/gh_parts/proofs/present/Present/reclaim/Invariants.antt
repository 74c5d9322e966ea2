-- The rows are those that the parts stand for.
use Rattle.gh_parts.proofs.present.Present.reclaim.Given as goal

abbrev pub ghost-reclaim_retired : goal.ghost-reclaim_retired
ghost-reclaim_retired g a = g.s
