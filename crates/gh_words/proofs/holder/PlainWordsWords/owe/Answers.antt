-- One more is owed, or one less.
use Rattle.gh_words.proofs.HolderShown.{owe_made, settle_made}
use Rattle.gh_words.proofs.holder.PlainWordsWords.owe.Goals as goal

pub returns-then-more-clause-made : goal.returns-then-more-clause-made
returns-then-more-clause-made c = owe_made c.args.self.now c.add_one.new.self c.args.object c.add_one.result c.args.more c.add_one.ensures.word c.add_one.ensures.added c.if-more.true

pub returns-else-more-clause-made : goal.returns-else-more-clause-made
returns-else-more-clause-made c = settle_made c.args.self.now c.take_one.new.self c.args.object c.take_one.result c.args.more c.take_one.ensures.word c.take_one.ensures.taken c.if-more.false
