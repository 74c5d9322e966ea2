-- The rows are those that the parts stand for.
use Rattle.gh_parts.proofs.parts.Parts.object_line.Given as goal

abbrev pub ghost-new_object : goal.ghost-new_object
ghost-new_object g a = g.s

abbrev pub ghost-new_queue : goal.ghost-new_queue
ghost-new_queue g a = g.s

abbrev pub ghost-extent_line : goal.ghost-extent_line
ghost-extent_line g a = g.s
