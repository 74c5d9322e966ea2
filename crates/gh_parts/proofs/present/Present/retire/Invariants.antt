-- The rows are those that the parts stand for.
use Rattle.gh_parts.proofs.present.Present.retire.Given as goal

abbrev pub ghost-retire_doomed : goal.ghost-retire_doomed
ghost-retire_doomed g a = g.s
