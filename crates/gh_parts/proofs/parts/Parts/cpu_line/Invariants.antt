-- The rows are those that the parts stand for.
use Rattle.gh_parts.proofs.parts.Parts.cpu_line.Given as goal

abbrev pub ghost-new_vm : goal.ghost-new_vm
ghost-new_vm g a = g.s

abbrev pub ghost-new_manager : goal.ghost-new_manager
ghost-new_manager g a = g.s

abbrev pub ghost-new_link : goal.ghost-new_link
ghost-new_link g a = g.s
