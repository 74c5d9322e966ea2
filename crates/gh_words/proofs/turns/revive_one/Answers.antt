-- It is one event.
use Rattle.std.proofs.Common.{[]}
use Rattle.gh_words.specs.Holding.{reviving}
use Rattle.gh_words.proofs.Making.{makes_one, may_first}
use Rattle.gh_words.proofs.turns.revive_one.Goals as goal

pub revive-requires : goal.revive-requires
revive-requires g c =
    record { may = may_first (g.W.Words.shows c.args.words.now) (reviving c.args.object c.args.count) (λ cpu. []) c.requires.can }

pub returns-clause-made : goal.returns-clause-made
returns-clause-made g c =
    makes_one g.W.Words.between (g.W.Words.shows c.args.words.now) (g.W.Words.shows c.revive.new.self) (reviving c.args.object c.args.count) c.revive.ensures.made
