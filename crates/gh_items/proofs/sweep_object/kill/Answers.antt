-- The pins are the count of the object's word, and the counters the present ones.
use Rattle.std.proofs.Common.{◌≡◌, Some, arith, subst, sym}
use Rattle.gh_schedules.specs.Sweep.{killing}
use Rattle.gh_schedules.specs.Trace.{after_all}
use Rattle.gh_items.specs.Stands.{Stands, with_call}
use Rattle.gh_items.specs.declared.progress.Progress.{Progress}
use Rattle.gh_items.proofs.SeatLemmas.{if_ok}
use Rattle.gh_items.proofs.SweepScanLemmas.{has_room, pinned_kill, unpinned_kill, with_sound}
use Rattle.gh_items.proofs.sweep_object.kill.Goals as goal

pub returns-then-pins_of-gt0-clause-stands : goal.returns-then-pins_of-gt0-clause-stands
returns-then-pins_of-gt0-clause-stands c conf scans =
    pinned_kill c.args.progress.now c.args.cpu.0 c.args.call.now c.args.serial conf scans c.pins_of.result
    (c.pins_of.ensures.counts conf (with_sound c.args.progress.now c.args.cpu.0 c.args.call.now conf scans.sweeps)) (omega (arith, c.if-pins_of-gt0.true))

pub retire_dead-requires : goal.retire_dead-requires
retire_dead-requires c = record {
  room = has_room c.args.progress.now c.args.cpu.0 c.args.call.now c.args.serial c.requires.scans.conf c.requires.scans.scans;
}

pub returns-clause-stands : goal.returns-clause-stands
returns-clause-stands c conf scans =
    let none : c.pins_of.result ≡ 0 = omega (arith, c.if-pins_of-gt0.false) in
    if_ok c.retire_dead.result
    (λ made.
    subst (λ (p : Progress). Stands (with_call p c.args.cpu.0 (Some c.args.call.now)) (after_all conf (killing c.args.cpu.0 c.args.serial conf))) (sym made)
    (unpinned_kill c.args.progress.now c.args.cpu.0 c.args.call.now c.args.serial conf scans c.counters-seen.result
    (c.counters-seen.ensures conf (with_sound c.args.progress.now c.args.cpu.0 c.args.call.now conf scans.sweeps)) c.pins_of.result
    (c.pins_of.ensures.counts conf (with_sound c.args.progress.now c.args.cpu.0 c.args.call.now conf scans.sweeps)) none))
    c.retire_dead.ensures.made
