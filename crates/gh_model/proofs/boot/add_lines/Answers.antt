-- The next line keeps what is left, and the state fitting.
use Rattle.std.proofs.Common.{◌∙◌}
use Rattle.gh_model.proofs.FittingLemmas.{next_fitting}
use Rattle.gh_model.proofs.BootLemmas.{lines_fit_rest, fold_rest}
use Rattle.gh_model.proofs.boot.add_lines.Goals as goal

pub loop-line-preserved : goal.loop-line-preserved
loop-line-preserved c =
    let made = c.in_ok-add_line.ensures in
    record {
      fit = rw made (lines_fit_rest _ _ _ _ c.loop-line-test.true c.loop-line.invariant.fit);
      fitting = next_fitting _ _ _ _ _ made c.loop-line-test.true c.loop-line.invariant.fit c.loop-line.invariant.fitting;
      rest = rw made (fold_rest _ _ _ _ c.loop-line-test.true) ∙ c.loop-line.invariant.rest;
    }
