-- The scans are those of the plan.
use Rattle.gh_words.proofs.Making.{scans_planned}
use Rattle.gh_words.proofs.turns.scan_all.Goals as goal

pub returns-clause-made : goal.returns-clause-made
returns-clause-made g c =
    scans_planned g.W.Words.between (g.W.Words.shows c.args.words.now) (g.W.Words.shows c.counters.new.self) c.counters.result c.counters.ensures.made
