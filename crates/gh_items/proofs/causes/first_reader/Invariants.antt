-- The first one from the CPU that is reached.
use Rattle.std.proofs.Common.{◌≡◌, ◌≤◌, drop, slice_get}
use Rattle.gh_base.specs.declared.limits.TheConstants.{CPUS}
use Rattle.gh_events.specs.TurnEvents.{first_reader}
use Rattle.gh_items.proofs.causes.first_reader.Given as goal

abbrev pub invariant-loop-cpu : goal.invariant-loop-cpu
invariant-loop-cpu l = record {
  within : l.cpu ≤ CPUS;
  behind : l.first ≡ first_reader (slice_get l.now) l.cpu (drop l.cpu l.seen);
}

-- fewer are left with each step
abbrev pub decreases-loop-cpu : goal.decreases-loop-cpu
decreases-loop-cpu l = l.cpu
