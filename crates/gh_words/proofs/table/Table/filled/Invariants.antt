-- So many items so far.
use Rattle.std.proofs.Common.{◌≡◌, replicate}
use Rattle.gh_words.proofs.table.Table.filled.Given as goal

abbrev pub invariant-loop-done : goal.invariant-loop-done
invariant-loop-done g l = l.vec.items ≡ replicate l.done l.item
