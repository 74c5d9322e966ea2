-- The page itself is held by its holder, and so are those that follow without a gap.
use Rattle.std.proofs.Common.{arith}
use Rattle.gh_extent.proofs.RunLemmas.{run_held, run_some}
use Rattle.gh_extent.proofs.runs.Runs.run_at.Goals as goal

pub returns-clause-some : goal.returns-clause-some
returns-clause-some c =
    let some = run_some c.args.self.now c.args.page c.holder-holder.result (c.holder-holder.ensures) in
    omega (arith, c.requires.some, c.held_from.ensures, some, c.min.ensures)

pub returns-clause-held : goal.returns-clause-held
returns-clause-held c =
    run_held c.args.self.now c.holder-holder.result.0 c.args.page c.min.result
    (omega (arith, c.requires.within, c.min.ensures))
    (omega (arith, c.held_from.ensures, c.min.ensures))
