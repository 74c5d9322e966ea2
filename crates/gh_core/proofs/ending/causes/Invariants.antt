-- The causes so far, and those of the objects that are left.
use Rattle.std.proofs.Common.{◌≡◌, drop}
use Rattle.gh_core.specs.Running.{causes_behind, held_causes, holder_of}
use Rattle.gh_core.proofs.ending.causes.Given as goal

abbrev pub invariant-loop-row : goal.invariant-loop-row
invariant-loop-row l =
    causes_behind (holder_of l.turn) l.present l.held (drop l.row-index l.rows) ≡ held_causes (holder_of l.turn) l.present
