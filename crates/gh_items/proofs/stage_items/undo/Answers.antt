-- The call goes on behind its undo.
use Rattle.gh_core.specs.Running.{seen_of}
use Rattle.gh_events.specs.Config.{seen_index}
use Rattle.gh_items.proofs.StageLemmas.{undo_stands}
use Rattle.gh_items.proofs.stage_items.undo.Goals as goal

pub returns : goal.returns
returns g c =
    undo_stands g.from.progress g.from.conf g.from.at c.args.call.now c.requires.stands c.requires.within (seen_index (seen_of c.args.last))
