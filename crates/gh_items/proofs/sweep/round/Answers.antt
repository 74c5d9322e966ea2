-- Each half of the round begins where the scans, or the first half, led.
use Rattle.std.proofs.Common.{Some, subst, sym}
use Rattle.gh_schedules.specs.Sweep.{reclaims_all, scans}
use Rattle.gh_schedules.specs.Trace.{after_all}
use Rattle.gh_items.specs.Stands.{Stands, with_call}
use Rattle.gh_items.proofs.SeatLemmas.{if_ok}
use Rattle.gh_items.proofs.SweepLemmas.{first_scans, round_is, round_scans, second_scans}
use Rattle.gh_items.proofs.sweep.round.Goals as goal

pub reclaims_all-requires : goal.reclaims_all-requires
reclaims_all-requires c =
    record { scans = round_scans c.args.progress.now c.args.cpu.0 c.args.call.now c.requires.sweeps.conf c.requires.sweeps.sweeps }

pub kills_all-requires : goal.kills_all-requires
kills_all-requires c = record {
  scans = record {
    conf = _;
    scans = second_scans c.args.progress.now c.args.cpu.0 c.args.call.now c.requires.sweeps.conf c.requires.sweeps.sweeps c.reclaims_all.new.progress
        (c.in_ok-reclaims_all.ensures.stands (after_all c.requires.sweeps.conf (scans c.args.cpu.0 c.requires.sweeps.conf))
        (first_scans c.args.progress.now c.args.cpu.0 c.args.call.now c.requires.sweeps.conf c.requires.sweeps.sweeps));
  };
}

pub returns-clause-stands : goal.returns-clause-stands
returns-clause-stands c conf sweeps =
    if_ok c.kills_all.result
    (λ there.
    subst (Stands (with_call c.kills_all.new.progress c.args.cpu.0 (Some c.args.call.now)))
    (sym (round_is c.args.progress.now c.args.cpu.0 c.args.call.now conf sweeps)) there)
    (c.kills_all.ensures.stands
    (after_all (after_all conf (scans c.args.cpu.0 conf)) (reclaims_all c.args.cpu.0 (after_all conf (scans c.args.cpu.0 conf))))
    (second_scans c.args.progress.now c.args.cpu.0 c.args.call.now conf sweeps c.reclaims_all.new.progress
    (c.in_ok-reclaims_all.ensures.stands (after_all conf (scans c.args.cpu.0 conf))
    (first_scans c.args.progress.now c.args.cpu.0 c.args.call.now conf sweeps))))
