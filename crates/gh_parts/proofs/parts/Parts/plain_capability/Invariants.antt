-- The rows are those that the parts stand for.
use Rattle.gh_parts.proofs.parts.Parts.plain_capability.Given as goal

abbrev pub ghost-kind_of : goal.ghost-kind_of
ghost-kind_of g a = g.s
