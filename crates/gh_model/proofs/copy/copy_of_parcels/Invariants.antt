-- The copy has what came so far, and what is left completes it.
use Rattle.std.proofs.Common.{◌≡◌, ◌++◌, drop}
use Rattle.gh_model.proofs.copy.copy_of_parcels.Given as goal

abbrev pub invariant-loop-row : goal.invariant-loop-row
invariant-loop-row l = l.copy ++ drop l.row-index l.rows ≡ l.rows
