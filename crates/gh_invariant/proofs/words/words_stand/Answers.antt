-- The law is the lemma.
use Rattle.std.proofs.Common.{find}
use Rattle.gh_model.specs.History.{replay}
use Rattle.gh_model.specs.Rows.{is_object}
use Rattle.gh_invariant.proofs.WordsSince.{kind_lives, word_since}
use Rattle.gh_invariant.proofs.words.words_stand.Goals as goal

pub returns : goal.returns
returns c = λ s history cspace slot n valid fits made alive since within.
    word_since s history cspace slot n valid fits made
    (kind_lives (find (is_object cspace) (replay s history).objects) alive) since within
