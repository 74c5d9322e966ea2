-- The rows are those that the parts stand for.
use Rattle.gh_parts.proofs.parts.Parts.take_part.Given as goal

abbrev pub ghost-revoke_capability : goal.ghost-revoke_capability
ghost-revoke_capability g a = g.s
