-- Each item begins where this one does.
use Rattle.gh_items.proofs.section.go_on.Given as goal

abbrev pub ghost-read : goal.ghost-read
ghost-read g a = g.from

abbrev pub ghost-pin_last : goal.ghost-pin_last
ghost-pin_last g a = g.from

abbrev pub ghost-undo_last : goal.ghost-undo_last
ghost-undo_last g a = g.from
