-- The objects so far have their indices.
use Rattle.gh_items.specs.Beginning.{ArePlaced}
use Rattle.gh_items.proofs.beginning.boot_places.Given as goal
use Rattle.gh_schedules.specs.Indices.{boot_index}

abbrev pub invariant-loop-serial : goal.invariant-loop-serial
invariant-loop-serial l = record {
  placed : ArePlaced l.serial l.places (boot_index l.boot);
}
