-- The causes are those of the configuration at hand.
use Rattle.gh_items.proofs.swept_act.refused_end.Given as goal

abbrev pub ghost-causes : goal.ghost-causes
ghost-causes g a = g.conf
