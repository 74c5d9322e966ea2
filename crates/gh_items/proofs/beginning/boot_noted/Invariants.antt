-- The objects so far are noted with their places.
use Rattle.gh_items.specs.Beginning.{AreAllNoted}
use Rattle.gh_items.proofs.beginning.boot_noted.Given as goal
use Rattle.gh_schedules.specs.Places.{boot_place}

abbrev pub invariant-loop-serial : goal.invariant-loop-serial
invariant-loop-serial l = record {
  noted : AreAllNoted l.serial l.noted (boot_place l.boot);
}
