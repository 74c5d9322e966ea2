-- The sweep is made where the turn is taken, and the act is judged behind it.
use Rattle.std.proofs.Common.{Some, subst, sym}
use Rattle.gh_core.specs.Running.{current_of}
use Rattle.gh_items.specs.Stands.{Stands, with_call}
use Rattle.gh_items.proofs.ActLemmas.{begins, taken_sound}
use Rattle.gh_items.proofs.SweptLemmas.{swept_judged}
use Rattle.gh_items.proofs.swept_act.swept_act.Goals as goal

pub sweep-requires : goal.sweep-requires
sweep-requires g c = (
  c.requires.0,
  (
    taken_sound g.conf c.args.cpu.0 (current_of c.args.call.now) c.requires.1.0,
    (
      record { apart = c.requires.1.0.steady.blocks.apart; few = c.requires.1.0.steady.blocks.few; each = c.requires.1.0.steady.blocks.each },
      (c.requires.1.0.steady.nine, begins g.conf c.args.cpu.0 (current_of c.args.call.now) c.requires.1.0),
    ),
  ),
)

pub swept_judged-requires : goal.swept_judged-requires
swept_judged-requires g c = (
  subst (Stands (with_call c.sweep.new.progress c.args.cpu.0 (Some c.args.call.now)))
      (sym (swept_judged g.conf c.args.cpu.0 (current_of c.args.call.now) c.requires.1.0 c.requires.1.1)) c.in_ok-sweep.ensures.stands,
  (c.requires.1.0, c.requires.1.1),
)
