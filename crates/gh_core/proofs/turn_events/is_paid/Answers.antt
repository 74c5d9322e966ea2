-- What the table says there.
use Rattle.std.proofs.Common.{◌∙◌, ◌==◌, ap, ℕ}
use Rattle.gh_core.specs.Running.{no_number}
use Rattle.gh_core.proofs.TableLemmas.{number_read, or_read}
use Rattle.gh_core.proofs.turn_events.is_paid.Goals as goal

pub returns : goal.returns
returns c =
    ap (λ (n : ℕ). n == 0) (c.unwrap_or.ensures
    ∙ or_read _ _ _ _ (number_read no_number c.args.owed.now c.args.written.at) c.last_number.ensures)
