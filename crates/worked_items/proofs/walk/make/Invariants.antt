-- The item is that of the configuration at hand.
use Rattle.worked_items.proofs.walk.make.Given as goal

abbrev pub ghost-next_item : goal.ghost-next_item
ghost-next_item g a = g.conf
