-- The item begins where this one does.
use Rattle.gh_items.proofs.section.pin_last.Given as goal

abbrev pub ghost-pin : goal.ghost-pin
ghost-pin g a = g.from
