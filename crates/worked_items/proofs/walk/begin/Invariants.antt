-- The call begins in the configuration at hand.
use Rattle.worked_items.proofs.walk.begin.Given as goal

abbrev pub ghost-may_begin : goal.ghost-may_begin
ghost-may_begin g a = g.conf

abbrev pub ghost-begin_call : goal.ghost-begin_call
ghost-begin_call g a = g.conf
