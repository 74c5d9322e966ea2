-- A count that was written, or the references at the boot.
use Rattle.std.proofs.Common.{◌≡◌, ◌∙◌, ap, subst, ℕ, IfOk, List, []}
use Rattle.gh_model.specs.declared.state.State.{State}
use Rattle.gh_events.specs.Config.{references_at}
use Rattle.gh_core.specs.Running.{boot_index, boot_of, index_in}
use Rattle.gh_core.specs.Tables.{last_number}
use Rattle.gh_core.specs.declared.table.Written.{Written}
use Rattle.gh_core.proofs.TableLemmas.{none_read, number_read, some_read}
use Rattle.gh_core.proofs.reads.count.Goals as goal

pub returns-in-Some : goal.returns-in-Some
returns-in-Some c = some_read _ _ _ _ (number_read (references_at (boot_of c.args.running.now) (boot_index c.args.running.now)) c.args.running.now.counts c.args.at)
    (c.last_number.ensures ∙ ap (last_number c.args.at) c.as_slice.ensures) _ c.in-Some.is

pub returns-in-None : goal.returns-in-None
returns-in-None c =
    subst (λ (n : ℕ). IfOk c.narrow.result (λ narrowed. narrowed ≡ n))
    (c.references_at.ensures.value
    ∙ (ap (λ (ws : List Written). references_at c.args.boot.now (index_in ws []) c.args.at) c.as_slice-in-None.ensures
    ∙ (ap (λ (s : State). references_at s (boot_index c.args.running.now) c.args.at) c.requires
    ∙ none_read _ _ _ _ (number_read (references_at (boot_of c.args.running.now) (boot_index c.args.running.now)) c.args.running.now.counts c.args.at)
    (c.last_number.ensures ∙ ap (last_number c.args.at) c.as_slice.ensures) c.in-None.is)))
    c.narrow.ensures
