-- The rows are those that the parts stand for.
use Rattle.gh_parts.proofs.present.Present.part.Given as goal

abbrev pub ghost-take_part : goal.ghost-take_part
ghost-take_part g a = g.s
