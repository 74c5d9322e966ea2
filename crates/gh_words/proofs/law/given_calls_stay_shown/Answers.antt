-- A call that is given has no place.
use Rattle.gh_words.proofs.GivenShown.{given_shown}
use Rattle.gh_words.proofs.law.given_calls_stay_shown.Goals as goal

pub returns : goal.returns
returns c = given_shown
