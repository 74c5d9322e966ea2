-- They are those of the configuration at hand.
use Rattle.gh_items.proofs.causes.causes.Given as goal

abbrev pub ghost-causes_of : goal.ghost-causes_of
ghost-causes_of g a = g.conf
