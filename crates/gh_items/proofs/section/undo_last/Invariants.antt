-- The item begins where this one does.
use Rattle.gh_items.proofs.section.undo_last.Given as goal

abbrev pub ghost-undo : goal.ghost-undo
ghost-undo g a = g.from
