-- So many pages have moved.
use Rattle.std.proofs.Common.{◌-◌, ◌≤◌}
use Rattle.gh_model.specs.Changes.{move_run}
use Rattle.gh_parts.specs.Stands.{Stands}
use Rattle.gh_parts.proofs.parts.Parts.move_pages.Given as goal

abbrev pub ghost-move_next : goal.ghost-move_next
ghost-move_next g a = g.s

abbrev pub invariant-loop-done : goal.invariant-loop-done
invariant-loop-done g l = record {
  within : l.done ≤ l.fn.count;
  stands : Stands l.self (move_run l.fn.first l.done l.fn.holder g.s);
}

abbrev pub decreases-loop-done : goal.decreases-loop-done
decreases-loop-done g l = l.fn.count - l.done
