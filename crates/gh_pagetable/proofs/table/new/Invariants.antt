-- The entries so far are empty, and there are as many as the loop has counted.
use Rattle.std.proofs.Common.{◌≡◌, ◌*◌, None, vec_len}
use Rattle.std.specs.List.{flat_map}
use Rattle.gh_pagetable.specs.Entry.{AllCover, run}
use Rattle.gh_pagetable.proofs.table.new.Given as goal

abbrev pub invariant-loop : goal.invariant-loop
invariant-loop g l = record {
  count : vec_len l.entries ≡ l.counter;
  cover : AllCover g.E.Entry.targets g.E.Entry.PAGES l.entries.items;
  empty : flat_map g.E.Entry.targets l.entries.items ≡ run None (g.E.Entry.PAGES * l.counter);
}
