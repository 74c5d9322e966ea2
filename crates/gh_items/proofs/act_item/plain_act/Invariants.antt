-- The act is judged in the configuration in which the turn is taken.
use Rattle.gh_items.proofs.act_item.plain_act.Given as goal

abbrev pub ghost-judged_act : goal.ghost-judged_act
ghost-judged_act g a = g.conf
