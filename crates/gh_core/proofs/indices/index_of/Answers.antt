-- What was given since counts before what the boot gave.
use Rattle.std.proofs.Common.{◌∙◌}
use Rattle.gh_core.specs.Running.{no_number}
use Rattle.gh_core.specs.Tables.{numbers}
use Rattle.gh_core.proofs.TableLemmas.{none_read, number_read, or_read, some_read}
use Rattle.gh_core.proofs.indices.index_of.Goals as goal

pub returns-in-Some : goal.returns-in-Some
returns-in-Some c = some_read _ _ _ _ (number_read (numbers no_number c.args.first.now) c.args.given.now c.args.serial.0) c.last_number.ensures _ c.in-Some.is

pub returns-in-None : goal.returns-in-None
returns-in-None c =
    c.unwrap_or.ensures
    ∙ (or_read _ _ _ _ (number_read no_number c.args.first.now c.args.serial.0) c.last_number-in-None.ensures
    ∙ none_read _ _ _ _ (number_read (numbers no_number c.args.first.now) c.args.given.now c.args.serial.0) c.last_number.ensures c.in-None.is)
