-- The sweep begins where the turn is taken, and the act is judged behind it.
use Rattle.gh_events.specs.TurnEvents.{taken}
use Rattle.gh_items.proofs.swept_act.swept_act.Given as goal

abbrev pub ghost-sweep : goal.ghost-sweep
ghost-sweep g a = taken g.conf a.cpu.0

abbrev pub ghost-swept_judged : goal.ghost-swept_judged
ghost-swept_judged g a = g.conf
