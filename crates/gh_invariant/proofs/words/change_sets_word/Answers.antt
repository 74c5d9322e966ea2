-- The slot has the capability and the setting that the change gives it.
use Rattle.gh_model.specs.Changes.{changed}
use Rattle.gh_invariant.specs.Effects.{leaves_in}
use Rattle.gh_invariant.proofs.WordsLeft.{slot_set, word_set}
use Rattle.gh_invariant.proofs.words.change_sets_word.Goals as goal

pub returns : goal.returns
returns c = λ s change cspace slot may sets is. word_set s (changed s change) cspace slot (leaves_in s change) is (slot_set s change cspace slot may sets)
