-- What was written there, or else 0.
use Rattle.std.proofs.Common.{◌∙◌, ap}
use Rattle.gh_core.specs.Running.{no_number}
use Rattle.gh_core.specs.Tables.{last_number}
use Rattle.gh_core.proofs.TableLemmas.{number_read, or_read}
use Rattle.gh_core.proofs.holder_events.owed_at.Goals as goal

pub returns : goal.returns
returns c =
    c.unwrap_or.ensures
    ∙ or_read _ _ _ _ (number_read no_number c.args.turn.now.owed c.args.at) (c.last_number.ensures ∙ ap (last_number c.args.at) c.as_slice.ensures)
