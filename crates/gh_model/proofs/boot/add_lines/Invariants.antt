-- The lines that are left fit in a state that fits, and make of it what all of them make of the
-- first.
use Rattle.std.proofs.Common.{◌≡◌, drop, fold, IsTrue}
use Rattle.gh_model.specs.Boot.{after_line, lines_fit}
use Rattle.gh_model.specs.Fitting.{IsFitting}
use Rattle.gh_model.proofs.boot.add_lines.Given as goal

abbrev pub invariant-loop-line : goal.invariant-loop-line
invariant-loop-line l = record {
  fit : IsTrue (lines_fit l.state (drop l.line-index l.lines));
  fitting : IsFitting l.state;
  rest : fold after_line l.state (drop l.line-index l.lines) ≡ fold after_line l.initial.state l.lines;
}
