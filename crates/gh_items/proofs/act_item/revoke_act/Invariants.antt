-- The parts begin where the turn is taken, and the act is judged behind them.
use Rattle.gh_events.specs.TurnEvents.{taken}
use Rattle.gh_items.proofs.act_item.revoke_act.Given as goal

abbrev pub ghost-make_all_parts : goal.ghost-make_all_parts
ghost-make_all_parts g a = taken g.conf a.cpu.0

abbrev pub ghost-judged_act : goal.ghost-judged_act
ghost-judged_act g a = g.conf
