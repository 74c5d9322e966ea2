-- The pages of the row whose machine pages moved are set, or taken away.
use Rattle.std.proofs.Common.{sym, ◌∙◌}
use Rattle.gh_addrspace.proofs.PageLemmas.{followed-cleared, followed-set}
use Rattle.gh_addrspace.proofs.pages.follow.Goals as goal

pub returns-then-eq-clause-followed : goal.returns-then-eq-clause-followed
returns-then-eq-clause-followed c v =
    followed-set _ _ c.args.mapping c.args.from.0 c.args.to.0 c.args.first.0 c.args.count c.max-low.result c.min-high.result v
    c.max-low.ensures c.min-high.ensures c.if-low-high.true (sym c.eq.ensures ∙ c.if-eq.true) c.set_run.ensures

pub returns-then-eq-2-clause-followed : goal.returns-then-eq-2-clause-followed
returns-then-eq-2-clause-followed c v =
    followed-cleared _ _ c.args.mapping c.args.from.0 c.args.to.0 c.args.first.0 c.args.count c.max-low.result c.min-high.result v
    c.max-low.ensures c.min-high.ensures c.if-low-high.true (sym c.eq.ensures ∙ c.if-eq.false) (sym c.eq-else-eq.ensures ∙ c.if-eq-2.true) c.clear_run.ensures
