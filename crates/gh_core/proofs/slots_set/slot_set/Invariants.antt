-- The changes so far set none.
use Rattle.std.proofs.Common.{◌≡◌, drop}
use Rattle.gh_events.specs.Entries.{slot_set}
use Rattle.gh_core.proofs.slots_set.slot_set.Given as goal

abbrev pub invariant-loop-change : goal.invariant-loop-change
invariant-loop-change l = slot_set (drop l.change-index l.changes) ≡ slot_set l.changes
