-- The objects of each boot file lie in the blocks of their partitions.
use Rattle.std.proofs.Common.{◌≡◌, ℕ, refl, arith, List, IsTrue}
use Rattle.gh_base.specs.declared.frame.Frame.{Frame}
use Rattle.gh_model.specs.Boot.{boot_fits, boot_state}
use Rattle.gh_model.specs.declared.boot_line.BootLine.{BootLine}
use Rattle.gh_model.specs.declared.rows.ObjectRow.{ObjectRow}
use Rattle.gh_model.specs.declared.state.State.{State}
use Rattle.gh_invariant.specs.Valid.{IsValid}
use Rattle.gh_invariant.proofs.BootValid.{boot_valid}
use Rattle.gh_events.specs.Config.{Config}
use Rattle.gh_schedules.specs.Indices.{InBlocks, boot_index, place_of, row_index}
use Rattle.gh_schedules.specs.Items.{IsSteady}
use Rattle.gh_schedules.specs.Places.{boot_place, places_behind}
use Rattle.gh_events.specs.References.{IsRow}
use Rattle.gh_events.specs.Start.{MayGive, given, start}
use Rattle.gh_schedules.proofs.Ranks.{boot_indices, index_of, place_alone, place_within, rank_few}
use Rattle.gh_events.proofs.SoundEvents.{given_keeps_sound, start_is_sound}

module _ (s : State) (valid : IsValid s) where
  place_by : (row : ObjectRow) → IsRow s row → place_of (boot_index s row.serial.0) ≡ boot_place s row.partition.0
  place_by row is =
      let there : boot_index s row.serial.0 ≡ row_index s row = index_of s valid row is in
      omega (arith, there, rank_few s valid row is)

  boot_blocks : InBlocks s (boot_place s) (boot_index s)
  boot_blocks = record { apart = place_alone s valid; few = place_within s valid; each = place_by }

-- so the start of each boot file is steady
pub start_is_steady : (lines : List BootLine) → IsTrue (boot_fits lines)
    → IsSteady (start (boot_state lines) (boot_index (boot_state lines)))
unfolding places_behind
start_is_steady lines fits = record {
  sound = start_is_sound lines (boot_index (boot_state lines)) fits (boot_indices lines fits);
  nine = λ n event seen is. absurd (let never : ⊥ = cc in never);
  blocks = boot_blocks (boot_state lines) (boot_valid lines fits);
  free = refl;
}

-- and a call that a CPU is given keeps it so
pub given_steady : (conf : Config) (at number : ℕ) (frame : Frame) → IsSteady conf → MayGive conf at number
    → IsSteady (given conf at number frame)
given_steady conf at number frame steady may = record {
  sound = given_keeps_sound conf at number frame steady.sound may;
  nine = steady.nine;
  blocks = record { apart = steady.blocks.apart; few = steady.blocks.few; each = steady.blocks.each };
  free = steady.free;
}
