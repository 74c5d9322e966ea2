-- States whose sums of units and whose pages are small numbers, as those of a machine are.
use Rattle.std.specs.Prelude.{◌+◌, ◌<◌, ◌≤◌, ℕ, length, All}
use Rattle.gh_base.specs.declared.limits.TheConstants.{OBJECT_INDICES, PARTITION_UNITS}
use Rattle.gh_model.specs.declared.rows.ObjectRow.{ObjectRow}
use Rattle.gh_model.specs.declared.rows.PartitionRow.{PartitionRow}
use Rattle.gh_model.specs.declared.state.State.{State}
use Rattle.gh_model.specs.Units.{used_units, given_units}

-- each partition's units in use, the units that it gave, and the pages of the machine fit 16 bits
pub record IsSmall (s : State) : Type 0 where
  pub used : (partition : ℕ) → used_units s partition < 65536
  pub given : (partition : ℕ) → given_units s partition < 65536
  pub pages : length s.holders < 65536

-- a quota of 128 units at most
abbrev pub IsSmallQuota : PartitionRow → Type 0
IsSmallQuota row = row.quota ≤ PARTITION_UNITS

-- an object of one unit at least
abbrev pub HasCost : ObjectRow → Type 0
HasCost row = 1 ≤ row.cost

-- what the slow machine keeps beside: quotas are small, objects cost units, and no act rings, or
-- gives a serial, more than once
pub record IsKept (s : State) : Type 0 where
  pub small : IsSmall s
  pub quotas : All IsSmallQuota s.partitions
  pub costs : All HasCost s.objects
  pub rings : s.rings ≤ s.entries
  pub serials : s.next_serial ≤ s.entries + OBJECT_INDICES + 1
