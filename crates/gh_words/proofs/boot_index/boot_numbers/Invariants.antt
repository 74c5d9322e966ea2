-- The indices so far, and those of the objects that are left.
use Rattle.std.proofs.Common.{◌≡◌, ◌++◌, drop, map}
use Rattle.gh_words.specs.Booting.{row_number}
use Rattle.gh_words.proofs.boot_index.boot_numbers.Given as goal

abbrev pub invariant-loop-row : goal.invariant-loop-row
invariant-loop-row l = l.numbers ++ map (row_number l.boot) (drop l.row-index l.rows) ≡ map (row_number l.boot) l.rows
