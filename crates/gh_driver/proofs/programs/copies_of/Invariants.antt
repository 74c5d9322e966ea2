-- The copies and the lines that are left are the lines.
use Rattle.std.proofs.Common.{◌≡◌, ◌++◌, drop}
use Rattle.gh_driver.proofs.programs.copies_of.Given as goal

abbrev pub invariant-loop-line : goal.invariant-loop-line
invariant-loop-line l = record {
  copied : l.copies.items ++ drop l.line-index l.lines ≡ l.lines;
}
