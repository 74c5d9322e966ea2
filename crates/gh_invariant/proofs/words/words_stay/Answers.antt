-- The slot keeps its capability and its setting.
use Rattle.gh_model.specs.Changes.{changed_all}
use Rattle.gh_invariant.proofs.WordsLeft.{slot_stays_all, word_kept, setting_kept}
use Rattle.gh_invariant.proofs.words.words_stay.Goals as goal

pub returns-clause-word : goal.returns-clause-word
returns-clause-word c = λ s changes cspace slot left. word_kept s (changed_all s changes) cspace slot (slot_stays_all s changes cspace slot left)

pub returns-clause-number : goal.returns-clause-number
returns-clause-number c = λ s changes cspace slot left. setting_kept s (changed_all s changes) cspace slot (slot_stays_all s changes cspace slot left)
