-- The row begins in the configuration at hand.
use Rattle.worked_items.proofs.walk.follow.Given as goal

abbrev pub ghost-begins : goal.ghost-begins
ghost-begins g a = g.conf

abbrev pub ghost-makes : goal.ghost-makes
ghost-makes g a = g.conf
