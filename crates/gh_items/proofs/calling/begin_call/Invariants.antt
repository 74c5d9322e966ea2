-- The call is given in the configuration at hand.
use Rattle.gh_items.proofs.calling.begin_call.Given as goal

abbrev pub ghost-refuse_frame : goal.ghost-refuse_frame
ghost-refuse_frame g a = g.conf

abbrev pub ghost-begin_given : goal.ghost-begin_given
ghost-begin_given g a = g.conf
