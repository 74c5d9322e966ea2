-- The count so far, and the slots that the changes that are left set.
use Rattle.std.proofs.Common.{◌≡◌, ◌+◌, ◌≤◌, count_by, drop}
use Rattle.gh_invariant.specs.Effects.{sets_some}
use Rattle.gh_core.proofs.slots_set.slots_set.Given as goal

abbrev pub invariant-loop-change : goal.invariant-loop-change
invariant-loop-change l = record {
  few : l.count ≤ l.change-index;
  rest : l.count + count_by sets_some (drop l.change-index l.changes) ≡ count_by sets_some l.changes;
}
