-- The shares so far have changed.
use Rattle.std.proofs.Common.{[]}
use Rattle.gh_parts.specs.PageMoves.{Follows, ShareChanges}
use Rattle.gh_parts.proofs.Pointwise.{ChangedTo}
use Rattle.gh_parts.proofs.shares.follow_shares.Given as goal

abbrev pub invariant-loop-at : goal.invariant-loop-at
invariant-loop-at l = ChangedTo (ShareChanges (Follows l.fn.from.0 l.fn.to l.fn.first l.fn.count)) [] l.fn.shares l.shares l.at
