-- The copy has what came so far, and what is left completes it.
use Rattle.std.proofs.Common.{◌≡◌, ◌++◌, drop}
use Rattle.gh_core.proofs.config.copies_of_seats.Given as goal

abbrev pub invariant-loop-seat : goal.invariant-loop-seat
invariant-loop-seat l = l.copy ++ drop l.seat-index l.seats ≡ l.seats
