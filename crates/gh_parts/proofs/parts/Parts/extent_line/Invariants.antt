-- The rows are those that the parts stand for.
use Rattle.gh_parts.proofs.parts.Parts.extent_line.Given as goal

abbrev pub ghost-new_root : goal.ghost-new_root
ghost-new_root g a = g.s

abbrev pub ghost-new_child : goal.ghost-new_child
ghost-new_child g a = g.s
