-- So far the items up to the index are copied.
use Rattle.std.proofs.Common.{◌≡◌, take}
use Rattle.gh_base.proofs.bounded.BoundedSequence.from_slice.Given as goal

abbrev pub invariant-loop-item : goal.invariant-loop-item
invariant-loop-item g l = l.vec.items ≡ take l.item-index l.items
