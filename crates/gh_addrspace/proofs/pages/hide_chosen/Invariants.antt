-- The rows that are left hide what all rows hide.
use Rattle.std.proofs.Common.{◌≡◌, ℕ, None, drop, length, if◌then◌else◌}
use Rattle.std.specs.List.{list_any}
use Rattle.gh_addrspace.specs.Rows.{hides}
use Rattle.gh_pagetable.specs.Map.{at}
use Rattle.gh_addrspace.proofs.pages.hide_chosen.Given as goal

abbrev pub invariant-loop-mapping : goal.invariant-loop-mapping
invariant-loop-mapping l = record {
  rest : (v : ℕ) → (if list_any (hides l.fn.chosen v) (drop l.mapping-index l.mappings) then None else at l.table v)
      ≡ (if list_any (hides l.fn.chosen v) l.mappings then None else at l.fn.table v);
  size : length l.table ≡ length l.fn.table;
}
