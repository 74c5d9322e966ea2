-- The parts are possible where the turn is taken, and the act is judged behind them.
use Rattle.std.proofs.Common.{Some, subst, sym}
use Rattle.gh_core.specs.Running.{current_of}
use Rattle.gh_items.specs.Stands.{Stands, with_call}
use Rattle.gh_items.proofs.ActLemmas.{taken_sound}
use Rattle.gh_items.proofs.RevokeLemmas.{parts_done, parts_judged, revoke_unswept}
use Rattle.gh_items.proofs.MarkLemmas.{from_same}
use Rattle.gh_items.proofs.SeatLemmas.{if_ok}
use Rattle.gh_items.proofs.act_item.revoke_act.Goals as goal

pub make_all_parts-requires : goal.make_all_parts-requires
make_all_parts-requires g c = (
  c.requires.0,
  (
    taken_sound g.conf c.args.cpu.0 (current_of c.args.call.now) c.requires.1.0,
    (c.requires.1.0.is_cpu, (c.requires.1.1, parts_done g.conf c.args.cpu.0 (current_of c.args.call.now) c.requires.1.0 c.requires.1.1)),
  ),
)

pub judged_act-requires : goal.judged_act-requires
judged_act-requires g c = (
  subst (Stands (with_call c.make_all_parts.new.progress c.args.cpu.0 (Some c.args.call.now)))
      (sym (parts_judged g.conf c.args.cpu.0 (current_of c.args.call.now) c.requires.1.0 c.requires.1.1)) c.in_ok-make_all_parts.ensures.stands,
  (c.requires.1.0, revoke_unswept c.args.call.now.given.call c.requires.1.1),
)

pub returns-clause-marks : goal.returns-clause-marks
returns-clause-marks g c =
    if_ok c.judged_act.result (from_same c.args.progress.now.marks c.make_all_parts.new.progress.marks _ c.in_ok-make_all_parts.ensures.marks)
    c.judged_act.ensures.marks
