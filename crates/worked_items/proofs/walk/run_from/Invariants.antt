-- Each row begins where those before it led.
use Rattle.worked_items.specs.Walk.{GoesOn, conf_at}
use Rattle.worked_items.proofs.walk.run_from.Given as goal

abbrev pub ghost-follow : goal.ghost-follow
ghost-follow g a = conf_at g.conf a.rows.now a.at

abbrev pub invariant-loop-at : goal.invariant-loop-at
invariant-loop-at g l = record {
  goes_on : GoesOn l.progress (conf_at g.conf l.rows l.at);
}
