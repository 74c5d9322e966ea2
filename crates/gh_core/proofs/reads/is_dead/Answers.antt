-- A mark that was written, or that of the boot.
use Rattle.std.proofs.Common.{◌∙◌, ap, not, is_some, List, []}
use Rattle.gh_model.specs.declared.state.State.{State}
use Rattle.gh_events.specs.Config.{object_at}
use Rattle.gh_core.specs.Running.{boot_index, boot_of, index_in}
use Rattle.gh_events.specs.Start.{boot_dead}
use Rattle.gh_core.specs.Tables.{last_mark}
use Rattle.gh_core.specs.declared.table.Written.{Written}
use Rattle.gh_core.proofs.TableLemmas.{mark_read, none_read, some_read}
use Rattle.gh_core.proofs.reads.is_dead.Goals as goal

pub returns-in-Some : goal.returns-in-Some
returns-in-Some c = some_read _ _ _ _ (mark_read (boot_dead (boot_of c.args.running.now) (boot_index c.args.running.now)) c.args.running.now.dead c.args.at)
    (c.last_mark.ensures ∙ ap (last_mark c.args.at) c.as_slice.ensures) _ c.in-Some.is

pub returns-in-None : goal.returns-in-None
returns-in-None c =
    ap not (c.is_some.ensures ∙ ap is_some (c.object_at.ensures
    ∙ (ap (λ (ws : List Written). object_at c.args.boot.now (index_in ws []) c.args.at) c.as_slice-in-None.ensures
    ∙ ap (λ (s : State). object_at s (boot_index c.args.running.now) c.args.at) c.requires)))
    ∙ none_read _ _ _ _ (mark_read (boot_dead (boot_of c.args.running.now) (boot_index c.args.running.now)) c.args.running.now.dead c.args.at)
    (c.last_mark.ensures ∙ ap (last_mark c.args.at) c.as_slice.ensures) c.in-None.is
