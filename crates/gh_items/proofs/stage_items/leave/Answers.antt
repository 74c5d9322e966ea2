-- The call comes to its act.
use Rattle.gh_items.proofs.StageLemmas.{leave_stands}
use Rattle.gh_items.proofs.stage_items.leave.Goals as goal

pub returns : goal.returns
returns g c =
    leave_stands g.from.progress g.from.conf g.from.at c.args.call.now c.requires.0.stands c.requires.0.within c.requires.1
