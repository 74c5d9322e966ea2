-- The pins so far are those of the CPUs, at most two each.
use Rattle.std.proofs.Common.{◌≡◌, ◌≤◌, ◌*◌}
use Rattle.gh_events.specs.References.{total}
use Rattle.gh_items.specs.SweepReads.{call_at, call_pins}
use Rattle.gh_items.proofs.sweep_reads.pins_of.Given as goal

abbrev pub invariant-loop-at : goal.invariant-loop-at
invariant-loop-at l = record {
  few : l.pins ≤ 2 * l.at;
  done : l.pins ≡ total l.at (λ at. call_pins l.index.0 (call_at l.progress l.cpu.0 l.call at));
}
