-- The rows are those that the parts stand for.
use Rattle.gh_parts.proofs.parts.Parts.restore.Given as goal

abbrev pub ghost-set_stage : goal.ghost-set_stage
ghost-set_stage g a = g.s
