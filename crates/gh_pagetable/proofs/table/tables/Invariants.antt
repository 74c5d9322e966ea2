-- The count so far is that of the entries so far.
use Rattle.std.proofs.Common.{◌≡◌, ◌+◌, ◌*◌, ◌≤◌, take}
use Rattle.std.specs.List.{sum_by}
use Rattle.gh_pagetable.proofs.table.tables.Given as goal

abbrev pub invariant-loop-entry : goal.invariant-loop-entry
invariant-loop-entry g l = record {
  exact : l.count ≡ sum_by (λ e. g.E.Entry.tables_in (g.E.Entry.targets e)) (take l.entry-index l.entries);
  fewer : l.count + l.entry-index ≤ g.E.Entry.PAGES * l.entry-index;
}
