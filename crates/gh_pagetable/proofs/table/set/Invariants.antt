-- Setting what is left of the run gives what setting the whole run gives.
use Rattle.std.proofs.Common.{◌≡◌, ◌+◌, ◌*◌, ◌≤◌}
use Rattle.std.specs.List.{flat_map}
use Rattle.gh_pagetable.specs.Entry.{IsTable, AreNumbered, overwritten, run}
use Rattle.gh_pagetable.proofs.table.set.Given as goal

abbrev pub invariant-loop-left : goal.invariant-loop-left
invariant-loop-left g l = record {
  table : IsTable g.E.Entry.targets g.E.Entry.PAGES l.entries;
  inside : l.at + l.left ≤ 16 * g.E.Entry.PAGES;
  machine : AreNumbered l.next l.left;
  rest : overwritten (flat_map g.E.Entry.targets l.entries) l.at (run l.next l.left)
      ≡ overwritten (flat_map g.E.Entry.targets l.fn.entries) l.fn.first (run l.fn.target l.fn.count);
}

abbrev pub decreases-loop-left : goal.decreases-loop-left
decreases-loop-left g l = l.left
