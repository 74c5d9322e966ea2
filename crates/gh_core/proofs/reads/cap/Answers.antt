-- A word that was written, or that of the boot.
use Rattle.std.proofs.Common.{◌∙◌, ap}
use Rattle.gh_model.specs.declared.state.State.{State}
use Rattle.gh_core.specs.Running.{boot_index, boot_of}
use Rattle.gh_events.specs.Start.{boot_cap}
use Rattle.gh_core.specs.Tables.{last_word}
use Rattle.gh_core.proofs.TableLemmas.{none_read, some_read, word_read}
use Rattle.gh_core.proofs.reads.cap.Goals as goal

pub returns-in-Some : goal.returns-in-Some
returns-in-Some c = some_read _ _ _ _ (word_read (boot_cap (boot_of c.args.running.now) (boot_index c.args.running.now)) c.args.running.now.caps c.args.space c.args.slot)
    (c.last_word.ensures ∙ ap (last_word c.args.space c.args.slot) c.as_slice.ensures) _ c.in-Some.is

pub returns-in-None : goal.returns-in-None
returns-in-None c =
    c.boot_word.ensures
    ∙ (ap (λ (s : State). boot_cap s (boot_index c.args.running.now) c.args.space c.args.slot) c.requires.boot
    ∙ none_read _ _ _ _ (word_read (boot_cap (boot_of c.args.running.now) (boot_index c.args.running.now)) c.args.running.now.caps c.args.space c.args.slot)
    (c.last_word.ensures ∙ ap (last_word c.args.space c.args.slot) c.as_slice.ensures) c.in-None.is)
