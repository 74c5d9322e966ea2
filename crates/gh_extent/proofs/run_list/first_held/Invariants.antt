-- The pages of the runs that are left lie behind those of other holders.
use Rattle.std.proofs.Common.{◌≡◌, ◌+◌, drop, length}
use Rattle.std.specs.List.{position_or_len}
use Rattle.gh_extent.specs.Runs.{Rising, spread}
use Rattle.gh_model.specs.Memory.{is_serial}
use Rattle.gh_extent.proofs.run_list.first_held.Given as goal

abbrev pub invariant-loop-run : goal.invariant-loop-run
invariant-loop-run l = record {
  rise : Rising l.first (drop l.run-index l.runs);
  all : l.first + length (spread l.first (drop l.run-index l.runs)) ≡ length (spread 0 l.runs);
  place : l.first + position_or_len (is_serial l.fn.extent.0) (spread l.first (drop l.run-index l.runs))
      ≡ position_or_len (is_serial l.fn.extent.0) (spread 0 l.runs);
}
