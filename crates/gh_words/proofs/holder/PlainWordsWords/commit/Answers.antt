-- The history gets the entry.
use Rattle.gh_words.proofs.CommitShown.{commit_made}
use Rattle.gh_words.proofs.holder.PlainWordsWords.commit.Goals as goal

pub returns-clause-made : goal.returns-clause-made
returns-clause-made c = commit_made c.args.self.now c.push.new.self c.args.entry.now c.push.ensures.entries
