-- The call ends where its act is judged.
use Rattle.gh_items.specs.Acts.{judged_in}
use Rattle.gh_items.proofs.swept_act.swept_judged.Given as goal

abbrev pub ghost-end_refused : goal.ghost-end_refused
ghost-end_refused g a = judged_in g.conf a.cpu.0
