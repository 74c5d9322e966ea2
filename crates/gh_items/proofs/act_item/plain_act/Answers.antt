-- Nothing comes between the turn and the judgement.
use Rattle.std.proofs.Common.{Some, subst, sym}
use Rattle.gh_core.specs.Running.{current_of}
use Rattle.gh_items.specs.Stands.{Stands, with_call}
use Rattle.gh_items.proofs.ActLemmas.{plain_judged}
use Rattle.gh_items.proofs.act_item.plain_act.Goals as goal

pub judged_act-requires : goal.judged_act-requires
judged_act-requires g c = (
  subst (Stands (with_call c.args.progress.now c.args.cpu.0 (Some c.args.call.now)))
      (sym (plain_judged g.conf c.args.cpu.0 (current_of c.args.call.now) c.requires.1.0 c.requires.1.1.0 c.requires.1.1.1)) c.requires.0,
  (c.requires.1.0, c.requires.1.1.0),
)
