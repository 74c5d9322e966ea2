-- Each run goes to the parent, until there is none.
use Rattle.std.proofs.Common.{◌∙◌, ap, sym}
use Rattle.gh_extent.specs.Extents.{after_give_back}
use Rattle.gh_parts.proofs.FollowLemmas.{run_followed}
use Rattle.gh_parts.proofs.ReturnLemmas.{returning_can, returning_fewer, returning_next, returning_none, returning_pages}
use Rattle.gh_parts.proofs.returns.return_runs.Goals as goal

pub loop-first-init : goal.loop-first-init
loop-first-init c =
    returning_none c.args.extent.0 c.args.parent c.args.extents.now c.args.shares.now c.requires.whole

pub give_back-requires : goal.give_back-requires
give_back-requires c =
    returning_can c.args.extent.0 c.args.parent c.args.extents.now c.loop-first.extents c.args.shares.now c.loop-first.shares
    c.requires.can c.requires.above c.loop-first.invariant

pub loop-first-smaller : goal.loop-first-smaller
loop-first-smaller c =
    returning_fewer c.args.extent.0 c.args.parent c.args.extents.now c.loop-first.extents c.args.shares.now c.loop-first.shares
    c.requires.can c.requires.above c.loop-first.invariant (c.in-Some.first, c.in-Some.count) c.give_back.new.self
    c.follow_run.new.self (sym c.in-Some.is ∙ c.give_back.ensures.run)
    (c.give_back.ensures.state ∙ ap (after_give_back c.loop-first.extents c.args.extent.0) c.in-Some.is)
    (run_followed c.args.extent.0 c.args.parent c.in-Some.first.0 c.in-Some.count c.loop-first.shares c.follow_run.new.self
    c.loop-first.invariant.follow.whole c.follow_run.ensures)

pub loop-first-preserved : goal.loop-first-preserved
loop-first-preserved c =
    returning_next c.args.extent.0 c.args.parent c.args.extents.now c.loop-first.extents c.args.shares.now c.loop-first.shares
    c.requires.can c.requires.above c.loop-first.invariant (c.in-Some.first, c.in-Some.count) c.give_back.new.self
    c.follow_run.new.self (sym c.in-Some.is ∙ c.give_back.ensures.run)
    (c.give_back.ensures.state ∙ ap (after_give_back c.loop-first.extents c.args.extent.0) c.in-Some.is)
    (run_followed c.args.extent.0 c.args.parent c.in-Some.first.0 c.in-Some.count c.loop-first.shares c.follow_run.new.self
    c.loop-first.invariant.follow.whole c.follow_run.ensures)

pub returns-clause-pages : goal.returns-clause-pages
returns-clause-pages c =
    returning_pages c.args.extent.0 c.args.parent c.args.extents.now c.loop-first.extents c.args.shares.now c.loop-first.shares
    c.requires.can c.requires.above c.loop-first.invariant c.give_back.new.self
    (sym c.in_default.is ∙ c.give_back.ensures.run)
    (c.give_back.ensures.state ∙ ap (after_give_back c.loop-first.extents c.args.extent.0) c.in_default.is)
