-- The item is that of the configuration at hand.
use Rattle.worked_items.proofs.walk.makes.Given as goal

abbrev pub ghost-make : goal.ghost-make
ghost-make g a = g.conf
