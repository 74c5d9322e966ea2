-- Rows of the state: how one is found, and how one is changed.
use Rattle.std.specs.Prelude.{◌==◌, ◌&&◌, ℕ, Bool, List, Option}
use Rattle.std.specs.Prelude.{Some, None, find, slice_set, slice_get}
use Rattle.std.specs.List.{position_or_len}
use Rattle.gh_model.specs.declared.rows.ObjectRow.{ObjectRow}
use Rattle.gh_model.specs.declared.rows.PartitionRow.{PartitionRow}
use Rattle.gh_model.specs.declared.rows.CapabilityRow.{CapabilityRow}
use Rattle.gh_model.specs.declared.rows.SetAtRow.{SetAtRow}
use Rattle.gh_model.specs.declared.rows.ExtentRow.{ExtentRow}
use Rattle.gh_model.specs.declared.rows.BellRow.{BellRow}
use Rattle.gh_model.specs.declared.rows.QueueRow.{QueueRow}
use Rattle.gh_model.specs.declared.rows.CpuRow.{CpuRow}
use Rattle.gh_model.specs.declared.state.State.{State}

-- the rows with the first that passes the test changed
abbrev pub put_row : {R : Type 0} → (R → R) → List R → ℕ → Option R → List R
put_row change rows at None = rows
put_row change rows at (Some row) = slice_set rows at (change row)

-- the rows with the first that passes the test changed
abbrev pub change_row : {R : Type 0} → (R → Bool) → (R → R) → List R → List R
change_row test change rows =
    put_row change rows (position_or_len test rows) (slice_get rows (position_or_len test rows))

-- the row of an object, a partition, an extent, a bell, a queue, a CPU
abbrev pub is_object : ℕ → ObjectRow → Bool
is_object serial row = row.serial.0 == serial

-- the row is that of the partition with this serial
abbrev pub is_partition : ℕ → PartitionRow → Bool
is_partition serial row = row.serial.0 == serial

-- the row is that of the extent with this serial
abbrev pub is_extent : ℕ → ExtentRow → Bool
is_extent serial row = row.serial.0 == serial

-- the row is that of the doorbell with this serial
abbrev pub is_bell : ℕ → BellRow → Bool
is_bell serial row = row.serial.0 == serial

-- the row is that of the queue with this serial
abbrev pub is_queue : ℕ → QueueRow → Bool
is_queue serial row = row.serial.0 == serial

-- the row is that of the CPU with this number
abbrev pub is_cpu : ℕ → CpuRow → Bool
is_cpu number row = row.cpu.0 == number

-- the row of the object with this serial
abbrev pub object_row : State → ℕ → Option ObjectRow
object_row s serial = find (is_object serial) s.objects

-- the row of the CPU with this number
abbrev pub cpu_row : State → ℕ → Option CpuRow
cpu_row s number = find (is_cpu number) s.cpus

-- the slot's capability
abbrev pub fills : ℕ → ℕ → CapabilityRow → Bool
fills cspace slot row = (row.cspace.0 == cspace) && (row.slot == slot)

-- the row that says which entry set the slot
abbrev pub tells_setting : ℕ → ℕ → SetAtRow → Bool
tells_setting cspace slot row = (row.cspace.0 == cspace) && (row.slot == slot)
