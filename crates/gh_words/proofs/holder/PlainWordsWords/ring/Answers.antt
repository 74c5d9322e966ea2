-- The bell's number is none of the configuration's.
use Rattle.gh_words.proofs.HolderShown.{rung_shown}
use Rattle.gh_words.proofs.holder.PlainWordsWords.ring.Goals as goal

pub returns-clause-shown : goal.returns-clause-shown
returns-clause-shown c = rung_shown c.args.self.now c.args.rings
