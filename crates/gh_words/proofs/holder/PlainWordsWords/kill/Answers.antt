-- The count isn't 0, or the word is dead.
use Rattle.std.proofs.Common.{arith}
use Rattle.gh_words.proofs.HolderShown.{kill_made, kill_seen}
use Rattle.gh_words.proofs.holder.PlainWordsWords.kill.Goals as goal

pub returns-then-word-gt0-clause-made : goal.returns-then-word-gt0-clause-made
returns-then-word-gt0-clause-made c = kill_seen c.args.self.now c.args.object c.reference-word.result c.reference-word.ensures c.if-word-gt0.true

pub returns-clause-made : goal.returns-clause-made
returns-clause-made c =
    kill_made c.args.self.now c.put_reference.new.self c.args.object c.reference-word.result c.reference-word.ensures c.put_reference.ensures (omega (arith, c.if-word-gt0.false))
