-- The rows are those that the parts stand for.
use Rattle.gh_parts.proofs.parts.Parts.add_line.Given as goal

abbrev pub ghost-line_changes : goal.ghost-line_changes
ghost-line_changes g a = g.s

abbrev pub ghost-make_each : goal.ghost-make_each
ghost-make_each g a = g.s
