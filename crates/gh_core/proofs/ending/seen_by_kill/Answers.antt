-- What was kept of it.
use Rattle.std.proofs.Common.{◌∙◌, ap, sym}
use Rattle.gh_core.specs.Tables.{last_number}
use Rattle.gh_core.proofs.TableLemmas.{option_read}
use Rattle.gh_core.proofs.ending.seen_by_kill.Goals as goal

pub returns : goal.returns
returns c = (c.last_number.ensures ∙ ap (last_number c.args.serial.0) c.as_slice.ensures) ∙ sym (option_read c.args.turn.now.failed c.args.serial.0)
