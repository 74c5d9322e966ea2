-- The rows are those that the parts stand for.
use Rattle.gh_parts.proofs.parts.Parts.line_changes.Given as goal

abbrev pub ghost-new_capability : goal.ghost-new_capability
ghost-new_capability g a = g.s

abbrev pub ghost-cpu_line : goal.ghost-cpu_line
ghost-cpu_line g a = g.s

abbrev pub ghost-object_line : goal.ghost-object_line
ghost-object_line g a = g.s
