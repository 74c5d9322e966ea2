-- The table has the same mappings at each step, and grows up to the place.
use Rattle.std.proofs.Common.{◌≡◌, ◌+◌, ◌-◌, ℕ, length}
use Rattle.gh_bootfile.specs.Draft.{mappings_at}
use Rattle.gh_bootfile.proofs.mappings.make_place.Given as goal

abbrev pub invariant-loop-alloc : goal.invariant-loop-alloc
invariant-loop-alloc l = (n : ℕ) → mappings_at l.table n ≡ mappings_at l.initial.table n

abbrev pub decreases-loop-alloc : goal.decreases-loop-alloc
decreases-loop-alloc l = l.space.0 + 1 - length l.table
