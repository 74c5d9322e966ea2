-- The slot gets its word, and the history the entry.
use Rattle.gh_words.proofs.CommitShown.{set_cap_made}
use Rattle.gh_words.proofs.holder.PlainWordsWords.set_cap.Goals as goal

pub returns-clause-made : goal.returns-clause-made
returns-clause-made c = set_cap_made c.args.self.now c.put_cap.new.self c.push.new.self c.args.entry.now c.args.space c.args.slot c.args.word c.put_cap.ensures c.push.ensures.entries
