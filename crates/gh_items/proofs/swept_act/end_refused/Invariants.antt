-- The call ends in the configuration at hand.
use Rattle.gh_items.proofs.swept_act.end_refused.Given as goal

abbrev pub ghost-refused_end : goal.ghost-refused_end
ghost-refused_end g a = g.conf
