-- The item begins in the configuration at hand.
use Rattle.gh_items.proofs.calling.last_item.Given as goal

abbrev pub ghost-act_item : goal.ghost-act_item
ghost-act_item g a = g.conf

abbrev pub ghost-end_of_section : goal.ghost-end_of_section
ghost-end_of_section g a = g.conf
