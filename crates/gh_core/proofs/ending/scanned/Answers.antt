-- What was scanned.
use Rattle.std.proofs.Common.{◌∙◌, ap, sym}
use Rattle.gh_core.specs.Tables.{last_number}
use Rattle.gh_core.proofs.TableLemmas.{option_read}
use Rattle.gh_core.proofs.ending.scanned.Goals as goal

pub returns : goal.returns
returns c = (c.last_number.ensures ∙ ap (last_number c.args.cpu) c.as_slice.ensures) ∙ sym (option_read c.args.turn.now.scans c.args.cpu)
