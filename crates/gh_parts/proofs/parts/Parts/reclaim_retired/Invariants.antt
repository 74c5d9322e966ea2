-- The rows are those that the parts stand for.
use Rattle.gh_parts.proofs.parts.Parts.reclaim_retired.Given as goal

abbrev pub ghost-reclaim : goal.ghost-reclaim
ghost-reclaim g a = g.s
