-- The change is made of the rows that the parts stand for.
use Rattle.gh_parts.proofs.parts.Parts.make_at.Given as goal

abbrev pub ghost-make : goal.ghost-make
ghost-make g a = g.s
