-- The CPUs so far have left.
use Rattle.std.proofs.Common.{◌≡◌, drop}
use Rattle.gh_core.specs.EntryTests.{have_left}
use Rattle.gh_core.proofs.commit.have_left.Given as goal

abbrev pub invariant-loop-at : goal.invariant-loop-at
invariant-loop-at l = have_left (drop l.at l.before) (drop l.at l.now) ≡ have_left l.before l.now
