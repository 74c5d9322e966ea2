-- The places so far have changed.
use Rattle.gh_parts.specs.PageMoves.{Follows, PlaceChanges}
use Rattle.gh_parts.specs.Shares.{no_place}
use Rattle.gh_parts.proofs.Pointwise.{ChangedTo}
use Rattle.gh_parts.proofs.shares.follow_places.Given as goal

abbrev pub invariant-loop-at : goal.invariant-loop-at
invariant-loop-at l = ChangedTo (PlaceChanges (Follows l.fn.from.0 l.fn.to l.fn.first l.fn.count)) no_place l.fn.places l.places l.at
