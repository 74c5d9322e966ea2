-- The rows are those that the parts stand for.
use Rattle.gh_parts.proofs.parts.Parts.act.Given as goal

abbrev pub ghost-make_all : goal.ghost-make_all
ghost-make_all g a = g.s
