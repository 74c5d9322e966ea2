-- The rows are those that the parts stand for.
use Rattle.gh_parts.proofs.parts.Parts.retire_doomed.Given as goal

abbrev pub ghost-retire : goal.ghost-retire
ghost-retire g a = g.s
