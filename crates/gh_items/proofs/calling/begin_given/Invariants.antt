-- The call is given in the configuration at hand.
use Rattle.gh_items.proofs.calling.begin_given.Given as goal

abbrev pub ghost-enter : goal.ghost-enter
ghost-enter g a = g.conf

abbrev pub ghost-lookless_act : goal.ghost-lookless_act
ghost-lookless_act g a = g.conf
