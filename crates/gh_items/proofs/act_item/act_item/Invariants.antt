-- The turn is taken in the configuration at hand.
use Rattle.gh_items.proofs.act_item.act_item.Given as goal

abbrev pub ghost-swept_act : goal.ghost-swept_act
ghost-swept_act g a = g.conf

abbrev pub ghost-unswept_act : goal.ghost-unswept_act
ghost-unswept_act g a = g.conf
