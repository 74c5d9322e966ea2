-- The pages so far are shown, and every other page leads where it did.
use Rattle.std.proofs.Common.{◌≡◌, ℕ, ◌-◌, ◌≤◌, length}
use Rattle.gh_addrspace.proofs.PageLemmas.{shown_to}
use Rattle.gh_pagetable.specs.Map.{at}
use Rattle.gh_addrspace.proofs.pages.show.Given as goal

abbrev pub invariant-loop-done : goal.invariant-loop-done
invariant-loop-done g l = record {
  within : l.done ≤ l.fn.mapping.row.count;
  pages : (v : ℕ) → at l.table v ≡ shown_to (g.H.Holders.holders l.fn.holders) l.fn.mapping l.fn.table l.done v;
  size : length l.table ≡ length l.fn.table;
}

abbrev pub decreases-loop-done : goal.decreases-loop-done
decreases-loop-done g l = l.fn.mapping.row.count - l.done
