-- The word is the count.
use Rattle.gh_words.proofs.HolderShown.{revive_made}
use Rattle.gh_words.proofs.holder.PlainWordsWords.revive.Goals as goal

pub returns-clause-made : goal.returns-clause-made
returns-clause-made c = revive_made c.args.self.now c.put_reference.new.self c.args.object c.args.count c.put_reference.ensures
