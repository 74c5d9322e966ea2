-- The CPUs so far have left.
use Rattle.std.proofs.Common.{◌≡◌, drop}
use Rattle.gh_items.proofs.sweep_object.have_left.Given as goal
use Rattle.gh_schedules.specs.Sweep.{have_left}

abbrev pub invariant-loop-at : goal.invariant-loop-at
invariant-loop-at l = have_left (drop l.at l.before) (drop l.at l.now) ≡ have_left l.before l.now
