-- The counters so far are those of the CPUs.
use Rattle.std.proofs.Common.{◌≡◌, length, map, take}
use Rattle.std.specs.List.{range_with_len}
use Rattle.gh_base.specs.declared.limits.TheConstants.{CPUS}
use Rattle.gh_items.specs.SweepReads.{counter_at}
use Rattle.gh_items.proofs.sweep_reads.counters.Given as goal

abbrev pub invariant-loop-at : goal.invariant-loop-at
invariant-loop-at l = record {
  nine : length l.counters ≡ CPUS;
  done : take l.at l.counters ≡ map (counter_at l.progress l.cpu.0 l.call) (range_with_len 0 l.at);
}
