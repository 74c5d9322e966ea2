-- The rounds begin in the configuration at hand.
use Rattle.gh_items.proofs.sweep.sweep.Given as goal

abbrev pub ghost-rounds : goal.ghost-rounds
ghost-rounds g a = g.conf
