-- The rows are those that the parts stand for.
use Rattle.gh_parts.proofs.parts.Parts.new_capability.Given as goal

abbrev pub ghost-plain_capability : goal.ghost-plain_capability
ghost-plain_capability g a = g.s
