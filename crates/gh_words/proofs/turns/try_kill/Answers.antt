-- The answer is by the count that the kill found.
use Rattle.gh_words.proofs.Killing.{kill_tells}
use Rattle.gh_words.proofs.turns.try_kill.Goals as goal

pub returns-clause-made : goal.returns-clause-made
returns-clause-made g c =
    kill_tells g.W.Words.between (g.W.Words.shows c.args.words.now) (g.W.Words.shows c.kill.new.self) c.args.object c.kill.result c.kill.ensures.made
