-- The rows are those that the parts stand for.
use Rattle.gh_parts.proofs.parts.Parts.add_line_at.Given as goal

abbrev pub ghost-add_line : goal.ghost-add_line
ghost-add_line g a = g.s
