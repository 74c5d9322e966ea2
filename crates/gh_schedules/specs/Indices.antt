-- Indices of objects: a new object gets the least free index of its partition's block.
use Rattle.std.specs.Prelude.{◌≡◌, ◌==◌, ◌&&◌, ◌+◌, ◌*◌, ◌/◌, ◌<◌, not, ℕ, Bool, true, Option, None}
use Rattle.std.specs.Prelude.{count_by, find, is_some, nat_lt}
use Rattle.std.specs.List.{range_with_len}
use Rattle.std.specs.Option.{option_map_or, unwrap_or}
use Rattle.gh_base.specs.Kind.{kind_numbered}
use Rattle.gh_base.specs.declared.call.Call.{Call}
use Rattle.gh_base.specs.declared.call.Call.TheVariants.{Create}
use Rattle.gh_base.specs.declared.kind.Kind.{Kind}
use Rattle.gh_base.specs.declared.limits.TheConstants.{OBJECT_INDICES, PARTITION_PLACES, PARTITIONS}
use Rattle.gh_model.specs.Rows.{object_row}
use Rattle.gh_model.specs.Units.{lives_in}
use Rattle.gh_model.specs.declared.rows.ObjectRow.{ObjectRow}
use Rattle.gh_model.specs.declared.state.State.{State}
use Rattle.gh_events.specs.Config.{Config, object_at, present}
use Rattle.gh_events.specs.References.{IsRow}
use Rattle.gh_schedules.specs.Places.{boot_place, is_partition_kind, places_of}

-- the place of the block that an index lies in, and the first index of a block
abbrev pub place_of : ℕ → ℕ
place_of index = index / PARTITION_PLACES

abbrev pub block_at : ℕ → ℕ
block_at place = place * PARTITION_PLACES

-- a new object

-- no object lives at the index
abbrev pub is_free : State → (ℕ → ℕ) → ℕ → Bool
is_free s index at = not (is_some (object_at s index at))

-- the least free index of a block
abbrev pub free_index : State → (ℕ → ℕ) → ℕ → Option ℕ
free_index s index place =
    find (is_free s index) (range_with_len (block_at place) PARTITION_PLACES)

-- the index that a new object gets in this partition
abbrev pub new_index : State → (ℕ → ℕ) → (ℕ → ℕ) → ℕ → ℕ
new_index s places index partition = unwrap_or (free_index s index (places partition)) 0

-- the kind of the object that a call makes, if it makes one
abbrev pub kind_made : Call → Option Kind
kind_made (Create partition cspace number) = kind_numbered number
kind_made _ = None

-- objects of the boot

-- the row is that of an earlier object that lives in this partition
abbrev pub is_earlier_in : ℕ → ℕ → ObjectRow → Bool
is_earlier_in partition serial row = nat_lt row.serial.0 serial && lives_in partition row

-- the objects of each partition have their indices in their order
abbrev pub row_index : State → ObjectRow → ℕ
row_index boot row =
    block_at (boot_place boot row.partition.0)
    + count_by (is_earlier_in row.partition.0 row.serial.0) boot.objects

abbrev pub boot_index : State → ℕ → ℕ
boot_index boot serial = option_map_or (row_index boot) (object_row boot serial) 0

-- partitions have places of their own, and each object's index lies in the block of its partition
pub record InBlocks (s : State) (places index : ℕ → ℕ) : Type 0 where
  pub apart : (row other : ObjectRow) → IsRow s row → IsRow s other
      → is_partition_kind row.kind ≡ true → is_partition_kind other.kind ≡ true
      → places row.serial.0 ≡ places other.serial.0 → row.serial.0 ≡ other.serial.0
  pub few : (row : ObjectRow) → IsRow s row → is_partition_kind row.kind ≡ true
      → places row.serial.0 < PARTITIONS
  pub each : (row : ObjectRow) → IsRow s row
      → place_of (index row.serial.0) ≡ places row.partition.0

-- an index that there is, where no object lives
pub record IsFreeIndex (conf : Config) (at : ℕ) : Type 0 where
  pub within : at < OBJECT_INDICES
  pub uninhabited : object_at (present conf) conf.index at ≡ None

-- the objects of a configuration lie so
abbrev pub HasBlocks : Config → Type 0
HasBlocks conf = InBlocks (present conf) (places_of conf) conf.index
