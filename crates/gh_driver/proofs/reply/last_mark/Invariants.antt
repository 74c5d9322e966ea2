-- None of those behind the place that is reached is the CPU's.
use Rattle.std.proofs.Common.{◌≡◌, ◌≤◌, [], drop, filter, length}
use Rattle.gh_model.specs.Run.{is_mark_of}
use Rattle.gh_driver.proofs.reply.last_mark.Given as goal

abbrev pub invariant-loop-at : goal.invariant-loop-at
invariant-loop-at l = record {
  within : l.at ≤ length l.marks;
  behind : filter (is_mark_of l.cpu.0) (drop l.at l.marks) ≡ [];
}

-- fewer are left with each step
abbrev pub decreases-loop-at : goal.decreases-loop-at
decreases-loop-at l = l.at
