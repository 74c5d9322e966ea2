-- The CPUs so far have ended.
use Rattle.std.proofs.Common.{◌≡◌, ◌<◌, ℕ, false}
use Rattle.gh_driver.specs.Follows.{is_going}
use Rattle.gh_driver.proofs.run.all_ended.Given as goal

abbrev pub invariant-loop-at : goal.invariant-loop-at
invariant-loop-at g l = record {
  ended : (at : ℕ) → at < l.at → is_going l.run at ≡ false;
}
