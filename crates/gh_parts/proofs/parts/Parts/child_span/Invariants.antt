-- The rows are those that the parts stand for.
use Rattle.gh_parts.proofs.parts.Parts.child_span.Given as goal

abbrev pub ghost-span_start : goal.ghost-span_start
ghost-span_start g a = g.s
