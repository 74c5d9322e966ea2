-- The units of a partition.
use Rattle.std.specs.Prelude.{◌==◌, ◌-◌, ℕ, Bool, Option, Some}
use Rattle.std.specs.Prelude.{None, find, filter, map, sum_by, List}
use Rattle.gh_model.specs.declared.rows.ObjectRow.{ObjectRow}
use Rattle.gh_model.specs.declared.rows.PartitionRow.{PartitionRow}
use Rattle.gh_model.specs.declared.state.State.{State}
use Rattle.gh_model.specs.Rows.{is_partition}

-- the object lives in the partition
abbrev pub lives_in : ℕ → ObjectRow → Bool
lives_in partition row = row.partition.0 == partition

-- the partition's quota came from the parent
abbrev pub is_given_by : ℕ → PartitionRow → Bool
is_given_by parent row = row.parent.0 == parent

-- what an object costs
abbrev pub object_cost : ObjectRow → ℕ
object_cost row = row.cost

-- the quota in the row of a partition
abbrev pub partition_quota : PartitionRow → ℕ
partition_quota row = row.quota

-- the costs of the objects that live in the partition, added up
abbrev pub used_by : List ObjectRow → ℕ → ℕ
used_by objects partition = sum_by (λ x. x) (map object_cost (filter (lives_in partition) objects))

-- the units of a partition that its objects use
abbrev pub used_units : State → ℕ → ℕ
used_units s partition = used_by s.objects partition

-- the quotas of the partitions that were made from this one by calls, added up
abbrev pub given_by : List PartitionRow → ℕ → ℕ
given_by partitions parent =
    sum_by (λ x. x) (map partition_quota (filter (is_given_by parent) partitions))

-- the units of a partition that partitions in it were given
abbrev pub given_units : State → ℕ → ℕ
given_units s partition = given_by s.partitions partition

-- the partition's quota, 0 until it is configured
abbrev pub row_quota : Option PartitionRow → ℕ
row_quota None = 0
row_quota (Some row) = row.quota

-- the rest of the quota
abbrev pub rest_units : List ObjectRow → List PartitionRow → ℕ → ℕ
rest_units objects partitions partition =
    row_quota (find (is_partition partition) partitions) - used_by objects partition
    - given_by partitions partition

-- the units of a partition that are free
abbrev pub free_units : State → ℕ → ℕ
free_units s partition = rest_units s.objects s.partitions partition
