-- The programs so far are those of the CPUs so far.
use Rattle.std.proofs.Common.{◌≡◌, map}
use Rattle.std.specs.List.{range_with_len}
use Rattle.gh_driver.specs.Follows.{first_program}
use Rattle.gh_driver.proofs.programs.programs_of.Given as goal

abbrev pub invariant-loop-at : goal.invariant-loop-at
invariant-loop-at l = record {
  made : l.programs ≡ map (first_program l.files l.rows) (range_with_len 0 l.at);
}
