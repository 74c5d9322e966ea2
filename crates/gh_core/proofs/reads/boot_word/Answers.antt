-- The word of the object that lives at the index.
use Rattle.std.proofs.Common.{◌∙◌, ap, ℕ, List, []}
use Rattle.gh_model.specs.Word.{word_at}
use Rattle.gh_model.specs.declared.word.Word.{Word}
use Rattle.gh_events.specs.Entries.{shown}
use Rattle.gh_core.specs.Running.{index_in}
use Rattle.gh_events.specs.Start.{serial_at}
use Rattle.gh_core.specs.declared.table.Written.{Written}
use Rattle.gh_core.proofs.TableLemmas.{the_word}
use Rattle.gh_core.proofs.reads.boot_word.Goals as goal

pub returns : goal.returns
returns c =
    ap the_word (c.shown.ensures
    ∙ (ap (λ (w : Word). shown (index_in c.as_slice-first.result.now []) w)
    (c.word-word.ensures ∙ ap (λ (n : ℕ). word_at c.args.boot.now n c.args.slot) c.serial_at.ensures)
    ∙ ap (λ (ws : List Written). shown (index_in ws []) (word_at c.args.boot.now (serial_at c.args.boot.now (index_in ws []) c.args.space) c.args.slot)) c.as_slice-first.ensures))
