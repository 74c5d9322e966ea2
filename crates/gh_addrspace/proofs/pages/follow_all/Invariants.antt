-- The rows that are left lead each page where all rows do.
use Rattle.std.proofs.Common.{◌≡◌, ℕ, drop, length}
use Rattle.std.specs.List.{fold}
use Rattle.gh_addrspace.specs.Space.{follows}
use Rattle.gh_pagetable.specs.Map.{at}
use Rattle.gh_addrspace.proofs.pages.follow_all.Given as goal

abbrev pub invariant-loop-mapping : goal.invariant-loop-mapping
invariant-loop-mapping l = record {
  rest : (v : ℕ) → fold (follows l.fn.from.0 l.fn.to.0 l.fn.first.0 l.fn.count v) (at l.table v) (drop l.mapping-index l.mappings)
      ≡ fold (follows l.fn.from.0 l.fn.to.0 l.fn.first.0 l.fn.count v) (at l.fn.table v) l.mappings;
  size : length l.table ≡ length l.fn.table;
}
