-- The rounds that are left lead to the end.
use Rattle.std.proofs.Common.{◌≡◌, ◌-◌}
use Rattle.gh_items.proofs.SweepLemmas.{RoundsOn}
use Rattle.gh_items.proofs.sweep.rounds.Given as goal
use Rattle.gh_schedules.specs.Sweep.{rounds}
use Rattle.gh_schedules.specs.Trace.{after_all}

abbrev pub invariant-loop-made : goal.invariant-loop-made
invariant-loop-made g l = record {
  marks : l.progress.marks ≡ l.fn.progress.marks;
  rest : RoundsOn l.progress l.cpu.0 l.call (l.count - l.made) (after_all g.conf (rounds l.cpu.0 l.count g.conf));
}
