-- The rows are those that the parts stand for.
use Rattle.gh_parts.proofs.present.Present.act.Given as goal

abbrev pub ghost-act : goal.ghost-act
ghost-act g a = g.s
