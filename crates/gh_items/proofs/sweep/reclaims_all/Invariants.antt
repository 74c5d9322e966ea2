-- The objects that are left lead to the end, from where those so far led.
use Rattle.std.proofs.Common.{◌≡◌, drop}
use Rattle.gh_events.specs.Config.{Config}
use Rattle.gh_items.specs.Sweeps.{ScansIn}
use Rattle.gh_items.proofs.SweepLemmas.{GoesOn}
use Rattle.gh_items.proofs.sweep.reclaims_all.Given as goal
use Rattle.gh_schedules.specs.Sweep.{reclaiming, reclaims_all}
use Rattle.gh_schedules.specs.Trace.{after_all, for_each}

abbrev pub invariant-loop-serial : goal.invariant-loop-serial
invariant-loop-serial l = record {
  marks : l.progress.marks ≡ l.fn.progress.marks;
  rest : (conf : Config) → ScansIn l.fn.progress l.cpu.0 l.call conf
      → GoesOn l.progress l.cpu.0 l.call (for_each (reclaiming l.cpu.0) (drop l.serial-index l.objects)) (after_all conf (reclaims_all l.cpu.0 conf));
}
