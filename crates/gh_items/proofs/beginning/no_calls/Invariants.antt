-- So many have none.
use Rattle.std.proofs.Common.{◌≡◌, None, replicate}
use Rattle.gh_items.proofs.beginning.no_calls.Given as goal

abbrev pub invariant-loop-made : goal.invariant-loop-made
invariant-loop-made l = l.calls ≡ replicate l.made None
