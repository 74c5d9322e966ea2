-- Each object is tried where those before it led.
use Rattle.std.proofs.Common.{◌∙◌, ap, arith, refl}
use Rattle.std.proofs.lemmas.List.{drop_all}
use Rattle.std.proofs.lemmas.Option.{slice_get-get_or}
use Rattle.gh_core.specs.Running.{current_of}
use Rattle.gh_schedules.specs.Sweep.{reclaiming, reclaims_all, retired_objects}
use Rattle.gh_schedules.specs.Trace.{after_all}
use Rattle.gh_items.proofs.SweepLemmas.{goes_end, goes_next, reclaims_keep, reclaims_first, some_scans}
use Rattle.gh_items.proofs.sweep.reclaims_all.Goals as goal

pub reclaim-requires : goal.reclaim-requires
reclaim-requires c =
    record { scans = some_scans c.loop-serial.progress c.args.cpu.0 c.args.call.now _ _ (c.loop-serial.invariant.rest c.requires.scans.conf c.requires.scans.scans) }

pub loop-serial-init : goal.loop-serial-init
loop-serial-init c = record {
  marks = refl;
  rest = λ conf scans.
      reclaims_first c.args.progress.now c.args.cpu.0 c.args.call.now c.as_slice-objects.result.now conf scans
      (c.as_slice-objects.ensures.value ∙ (c.in_ok-serials.ensures ∙ ap retired_objects c.state.ensures.state));
}

pub loop-serial-preserved : goal.loop-serial-preserved
loop-serial-preserved c = record {
  marks = c.in_ok-reclaim.ensures.marks ∙ c.loop-serial.invariant.marks;
  rest = λ conf scans.
      goes_next c.args.cpu.0 c.args.call.now (reclaiming c.args.cpu.0) (reclaims_keep c.args.cpu.0 (current_of c.args.call.now)) c.loop-serial.progress
      c.reclaim.new.progress c.as_slice-objects.result.now c.loop-serial.serial-index _ (after_all conf (reclaims_all c.args.cpu.0 conf))
      (slice_get-get_or c.as_slice-objects.result.now c.loop-serial.serial-index _ c.loop-serial-test.true)
      (c.loop-serial.invariant.rest conf scans) c.in_ok-reclaim.ensures.stands;
}

pub returns-clause-stands : goal.returns-clause-stands
returns-clause-stands c conf scans =
    goes_end c.args.cpu.0 c.args.call.now (reclaiming c.args.cpu.0) (reclaims_keep c.args.cpu.0 (current_of c.args.call.now)) c.loop-serial.progress
    c.as_slice-objects.result.now c.loop-serial.serial-index (after_all conf (reclaims_all c.args.cpu.0 conf))
    (drop_all c.loop-serial.serial-index c.as_slice-objects.result.now (omega (arith, c.loop-serial-test.false)))
    (c.loop-serial.invariant.rest conf scans)
