-- What was written there, or else 0, and the references.
use Rattle.std.proofs.Common.{◌+◌, ◌∙◌, ap, ℕ}
use Rattle.gh_core.specs.Running.{no_number}
use Rattle.gh_core.specs.Tables.{numbers}
use Rattle.gh_core.proofs.TableLemmas.{number_read, or_read}
use Rattle.gh_core.proofs.owing.held.Goals as goal

pub returns : goal.returns
returns c =
    ap (λ (n : ℕ). n + c.references_at.result)
    (c.unwrap_or-before.ensures ∙ or_read _ _ _ _ (number_read no_number c.args.owed.now c.args.at) c.last_number.ensures)
    ∙ ap (λ (n : ℕ). numbers no_number c.args.owed.now c.args.at + n) c.references_at.ensures.value
