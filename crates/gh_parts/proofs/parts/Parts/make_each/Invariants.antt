-- The parts stand for the rows that the changes so far made.
use Rattle.std.proofs.Common.{take}
use Rattle.gh_model.specs.Changes.{changed_all}
use Rattle.gh_parts.specs.Stands.{Stands}
use Rattle.gh_parts.proofs.parts.Parts.make_each.Given as goal

abbrev pub ghost-make_at : goal.ghost-make_at
ghost-make_at g a = changed_all g.s (take a.at a.changes.now)

abbrev pub invariant-loop-at : goal.invariant-loop-at
invariant-loop-at g l = Stands l.self (changed_all g.s (take l.at l.changes))
