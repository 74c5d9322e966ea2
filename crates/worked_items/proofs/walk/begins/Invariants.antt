-- The call begins in the configuration at hand.
use Rattle.worked_items.proofs.walk.begins.Given as goal

abbrev pub ghost-begin : goal.ghost-begin
ghost-begin g a = g.conf
