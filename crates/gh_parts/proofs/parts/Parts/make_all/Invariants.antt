-- Without memory a change of stage that came first is made, and nothing else.
use Rattle.gh_parts.specs.MakingAll.{staged}
use Rattle.gh_parts.proofs.parts.Parts.make_all.Given as goal

abbrev pub ghost-make_each : goal.ghost-make_each
ghost-make_each g a = g.s

abbrev pub ghost-restore : goal.ghost-restore
ghost-restore g a = staged g.s a.changes.now
