-- The law is the lemma of whole histories.
use Rattle.gh_invariant.proofs.HistoriesKept.{history_doomed}
use Rattle.gh_invariant.proofs.histories.doomed_for_ever.Goals as goal

pub returns : goal.returns
returns c = λ s history object n valid fits some made none. history_doomed s history object n valid fits some made none
