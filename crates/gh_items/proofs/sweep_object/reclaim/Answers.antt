-- The counters are the present ones, and the history has room.
use Rattle.std.proofs.Common.{Some, arith, subst, sym}
use Rattle.gh_schedules.specs.Sweep.{reclaiming}
use Rattle.gh_schedules.specs.Trace.{after_all}
use Rattle.gh_items.specs.Stands.{Stands, with_call}
use Rattle.gh_items.specs.declared.progress.Progress.{Progress}
use Rattle.gh_items.proofs.SeatLemmas.{if_ok}
use Rattle.gh_items.proofs.SweepScanLemmas.{has_room, reclaim_stands, with_sound}
use Rattle.gh_items.proofs.sweep_object.reclaim.Goals as goal

pub reclaim_by-requires : goal.reclaim_by-requires
reclaim_by-requires c = record {
  room = omega (arith, has_room c.args.progress.now c.args.cpu.0 c.args.call.now c.args.serial c.requires.scans.conf c.requires.scans.scans);
}

pub returns-clause-stands : goal.returns-clause-stands
returns-clause-stands c conf scans =
    if_ok c.reclaim_by.result
    (λ made.
    subst (λ (p : Progress). Stands (with_call p c.args.cpu.0 (Some c.args.call.now)) (after_all conf (reclaiming c.args.cpu.0 c.args.serial conf))) (sym made)
    (reclaim_stands c.args.progress.now c.args.cpu.0 c.args.call.now c.args.serial conf scans c.counters-seen.result
    (c.counters-seen.ensures conf (with_sound c.args.progress.now c.args.cpu.0 c.args.call.now conf scans.sweeps))))
    c.reclaim_by.ensures.made
