-- Either begins where the turn is taken.
use Rattle.gh_items.proofs.act_item.unswept_act.Given as goal

abbrev pub ghost-revoke_act : goal.ghost-revoke_act
ghost-revoke_act g a = g.conf

abbrev pub ghost-plain_act : goal.ghost-plain_act
ghost-plain_act g a = g.conf
