-- The state is that of the boot file.
use Rattle.std.proofs.Common.{◌∙◌, subst, sym}
use Rattle.gh_model.specs.declared.state.State.{State}
use Rattle.gh_words.specs.Booting.{HasFew, HasIndices}
use Rattle.gh_words.proofs.BootShown.{boot_few, boot_within, ok_shown}
use Rattle.gh_words.proofs.plain_words.PlainWords.new.Goals as goal

pub words_of-requires-clause-indices : goal.words_of-requires-clause-indices
words_of-requires-clause-indices c =
    subst (λ (s : State). HasIndices s) (sym (c.state.ensures.state ∙ c.in_ok-plain.ensures)) (boot_within c.args.boot.now c.lines-lines.ensures.fits)

pub words_of-requires-clause-few : goal.words_of-requires-clause-few
words_of-requires-clause-few c =
    subst (λ (s : State). HasFew s) (sym (c.state.ensures.state ∙ c.in_ok-plain.ensures)) (boot_few c.args.boot.now c.lines-lines.ensures.fits)

pub returns-clause-shown : goal.returns-clause-shown
returns-clause-shown c =
    ok_shown c.args.boot.now c.lines-lines.ensures.fits c.words_of.result _ (c.state.ensures.state ∙ c.in_ok-plain.ensures) c.words_of.ensures
