-- What the state of a machine has behind lines of a boot file that fit: the bounds that follow from
-- the conditions of the lines.
use Rattle.std.specs.Prelude.{◌≡◌, ◌==◌, ◌+◌, ◌-◌, ◌*◌, ◌<◌, ◌≤◌}
use Rattle.std.specs.Prelude.{ℕ, List, length, Option, Some, None, find, count_by, sum_by}
use Rattle.gh_base.specs.Kind.{kind_number}
use Rattle.gh_base.specs.declared.kind.Kind.TheVariants as kind
use Rattle.gh_base.specs.declared.limits.TheConstants.{MACHINE_PAGES, PARTITIONS}
use Rattle.gh_base.specs.declared.limits.TheConstants.{PARTITION_UNITS, VMS}
use Rattle.gh_model.specs.declared.rows.ExtentRow.{ExtentRow}
use Rattle.gh_model.specs.declared.rows.ObjectRow.{ObjectRow}
use Rattle.gh_model.specs.declared.rows.PartitionRow.{PartitionRow}
use Rattle.gh_model.specs.declared.state.State.{State}
use Rattle.gh_model.specs.Boot.{vm_count}
use Rattle.gh_model.specs.Rows.{is_cpu, is_extent, is_partition}
use Rattle.gh_model.specs.Units.{given_by, row_quota, used_by}

-- the most units that an object costs: a queue of 64 messages of 1,024 bytes
abbrev pub object_units : ℕ
object_units = 17

-- what the objects that live in a partition leave of the most units of a quota
abbrev pub left_by : List ObjectRow → PartitionRow → ℕ
left_by objects row = PARTITION_UNITS - used_by objects row.serial.0

-- the same of all partitions, added up
abbrev pub left_in : List ObjectRow → List PartitionRow → ℕ
left_in objects partitions = sum_by (left_by objects) partitions

-- how many of the objects are partitions
abbrev pub partitions_among : List ObjectRow → ℕ
partitions_among objects =
    count_by (λ (row : ObjectRow). kind_number row.kind == kind_number kind.Partition) objects

-- the page behind the span of an extent; 0 where there is none
abbrev pub span_end : Option ExtentRow → ℕ
span_end None = 0
span_end (Some row) = row.first.0 + row.count

-- the objects and the units of their partitions
pub record FitObjects (next_serial : ℕ) (objects : List ObjectRow)
    (partitions : List PartitionRow) : Type 0 where
  -- serials count the objects from 1
  pub serials : next_serial ≡ length objects + 1
  -- each object that is a partition has a row, and there are few
  pub rows : length partitions ≡ partitions_among objects
  pub few : length partitions ≤ PARTITIONS
  -- a quota is at most 128 units
  pub quotas :
      (partition : ℕ) → row_quota (find (is_partition partition) partitions) ≤ PARTITION_UNITS
  pub given :
      (partition : ℕ) → given_by partitions partition ≤ PARTITION_UNITS * length partitions
  -- an object costs at most 17 units
  pub used : (partition : ℕ) → used_by objects partition ≤ object_units * length objects
  -- each object took a unit at least: with what is left there are 128 for each partition at most
  pub left : length objects + left_in objects partitions ≤ PARTITION_UNITS * length partitions

-- no two CPUs have one number, and the VMs are numbered from 1
pub record IsNumbered (s : State) : Type 0 where
  pub once : (n : ℕ) → count_by (is_cpu n) s.cpus ≤ 1
  pub beyond : (n : ℕ) → vm_count s < n → count_by (is_cpu n) s.cpus ≡ 0

-- behind lines that fit
pub record IsFitting (s : State) : Type 0 where
  -- the machine has at most 1,024 pages
  pub pages : length s.holders ≤ MACHINE_PAGES
  pub objects : FitObjects s.next_serial s.objects s.partitions
  -- each extent's span lies in the machine
  pub spans : (extent : ℕ) → span_end (find (is_extent extent) s.extents) ≤ length s.holders
  -- there are at most eight VMs
  pub vms : vm_count s ≤ VMS
  pub numbered : IsNumbered s
