-- The pages that one extent holds move.
use Rattle.gh_parts.proofs.StandsRun.{next_gives, next_stands, next_within}
use Rattle.gh_parts.proofs.parts.Parts.move_next.Goals as goal

pub run_at-pages-requires-clause-within : goal.run_at-pages-requires-clause-within
run_at-pages-requires-clause-within g c =
    next_within c.args.self.now g.s c.args.first c.args.done c.args.count c.args.holder c.requires.0 c.requires.1.1 c.requires.1.0

pub move_run-requires : goal.move_run-requires
move_run-requires g c =
    next_gives c.args.self.now g.s c.args.first c.args.done c.args.count c.args.holder c.requires.0 c.requires.1.1 c.requires.1.0
    c.run_at-pages.result.0 c.run_at-pages.result.1 c.run_at-pages.ensures.most c.run_at-pages.ensures.held

pub returns-clause-moved : goal.returns-clause-moved
returns-clause-moved g c =
    next_stands c.args.self.now g.s c.args.first c.args.done c.args.count c.args.holder c.requires.0 c.requires.1.1 c.requires.1.0
    c.run_at-pages.result.0 c.run_at-pages.result.1 c.run_at-pages.ensures.most c.run_at-pages.ensures.held
    c.move_run.new.self c.move_run.ensures
