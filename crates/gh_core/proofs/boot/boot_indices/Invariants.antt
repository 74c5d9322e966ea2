-- The indices so far and those of the objects that are left.
use Rattle.std.proofs.Common.{◌≡◌, ◌++◌, drop, map}
use Rattle.gh_core.specs.Booted.{placed}
use Rattle.gh_core.proofs.boot.boot_indices.Given as goal

abbrev pub invariant-loop-row : goal.invariant-loop-row
invariant-loop-row l = l.indices ++ map (placed l.boot) (drop l.row-index l.rows) ≡ map (placed l.boot) l.rows
