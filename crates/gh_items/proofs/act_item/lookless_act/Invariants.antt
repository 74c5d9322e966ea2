-- The act begins where the call is given.
use Rattle.gh_events.specs.Start.{given as given_next}
use Rattle.gh_items.proofs.act_item.lookless_act.Given as goal

abbrev pub ghost-unswept_act : goal.ghost-unswept_act
ghost-unswept_act g a = given_next g.conf a.cpu.0 a.call.now.given.number a.call.now.given.frame
