-- The pages so far are held, and what follows them decides.
use Rattle.std.proofs.Common.{◌≡◌, ◌+◌, drop}
use Rattle.std.specs.List.{prefix_len}
use Rattle.gh_extent.specs.Runs.{Rising, spread}
use Rattle.gh_model.specs.Memory.{is_serial}
use Rattle.gh_extent.proofs.run_list.held_to.Given as goal

abbrev pub invariant-loop-run : goal.invariant-loop-run
invariant-loop-run l = record {
  rise : Rising l.end (drop l.run-index l.runs);
  held : l.end + prefix_len (is_serial l.fn.extent.0) (spread l.end (drop l.run-index l.runs))
      ≡ l.fn.first + prefix_len (is_serial l.fn.extent.0) (spread l.fn.first l.runs);
}
