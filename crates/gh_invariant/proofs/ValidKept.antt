-- A change that may be made keeps a state valid, in the midst of an entry that is counted behind
-- it.
use Rattle.std.proofs.Common.{◌+◌, ◌≤◌, ◌∙◌, ℕ, arith}
use Rattle.gh_model.specs.Changes.{changed}
use Rattle.gh_model.specs.declared.change.Change.{Change}
use Rattle.gh_model.specs.declared.state.State.{State}
use Rattle.gh_model.proofs.RoomLemmas.{change_counts}
use Rattle.gh_invariant.specs.Premises.{MayChange}
use Rattle.gh_invariant.specs.Valid.{IsValidTo}
use Rattle.gh_invariant.proofs.CpusKept.{cpus_kept}
use Rattle.gh_invariant.proofs.PartsKept.{mappings_kept, objects_kept, pages_kept, rows_kept, units_kept}
use Rattle.gh_invariant.proofs.QueuesKept.{queues_kept}
use Rattle.gh_invariant.proofs.RetiredKept.{retired_kept}
use Rattle.gh_invariant.proofs.SlotsKept.{slots_kept}

-- all of it
pub valid_kept : (last : ℕ) (s : State) (change : Change) → s.entries + 1 ≤ last → IsValidTo last s
    → MayChange s change → IsValidTo last (changed s change)
valid_kept last s change within valid may = record {
  objects = objects_kept last s change valid may;
  slots = slots_kept last s valid (omega arith) change may;
  rows = rows_kept last s change valid may;
  units = units_kept last s change valid may;
  pages = pages_kept last s change valid may;
  mappings = mappings_kept last s change valid may;
  cpus = cpus_kept last s valid change may;
  queues = queues_kept last s change valid may;
  retired = retired_kept last s valid change may;
  parcels = (change_counts s change).parcels ∙ valid.parcels;
}
