-- What each change does to the units that a partition uses and gives.
use Rattle.std.proofs.Common.{◌≡◌, ◌+◌, ◌≤◌, ◌∙◌, ◌==◌, ℕ, Bool, true, false, List, [], ◌∷◌, ◌++◌, refl, sym, ap, arith, Option, Some, None, find, option_map}
use Rattle.std.specs.Prelude.{count_by, sum_by, if◌then◌else◌}
use Rattle.std.proofs.lemmas.List.Sums.{sum_by-append, sum_by-cons, sum_by_push}
use Rattle.gh_base.specs.declared.ids.Serial.{Serial}
use Rattle.gh_base.specs.declared.kind.Kind.{Kind}
use Rattle.gh_base.specs.declared.kind.Kind.TheVariants as kind
use Rattle.gh_model.specs.Changes.{new_partitions, with_cost, with_quota, without}
use Rattle.gh_model.specs.Rows.{change_row}
use Rattle.gh_model.specs.Units.{given_by, is_given_by, lives_in, object_cost, partition_quota, used_by}
use Rattle.gh_model.specs.declared.rows.ObjectRow.{ObjectRow}
use Rattle.gh_model.specs.declared.rows.PartitionRow.{PartitionRow}
use Rattle.gh_invariant.specs.Effects.{Share, cost_instead, cost_of, quota_instead, quota_of, share_for, units_of}
use Rattle.gh_invariant.proofs.Summing.{number_found, number_if, sum_change, sum_change_kept, sum_passing, sum_without}

-- what an object costs a partition, and what a partition's quota costs it
abbrev pub cost_in : ℕ → ObjectRow → ℕ
cost_in partition row = number_if (lives_in partition) object_cost row

abbrev pub quota_in : ℕ → PartitionRow → ℕ
quota_in partition row = number_if (is_given_by partition) partition_quota row

pub used_sum : (objects : List ObjectRow) (partition : ℕ)
    → used_by objects partition ≡ sum_by (cost_in partition) objects
used_sum objects partition = sum_passing (lives_in partition) object_cost objects

pub given_sum : (partitions : List PartitionRow) (partition : ℕ)
    → given_by partitions partition ≡ sum_by (quota_in partition) partitions
given_sum partitions partition = sum_passing (is_given_by partition) partition_quota partitions

-- shares

one_share : (partition : ℕ) (share : Share)
    → units_of partition (share ∷ []) ≡ share_for partition share
one_share partition share =
    let none : units_of partition [] ≡ 0 = refl in
    omega (arith, sum_by-cons (share_for partition) share [])

pub cost_share : (partition : ℕ) (found : Option ObjectRow)
    → units_of partition (cost_of found) ≡ number_found (cost_in partition) found
cost_share partition None = refl
cost_share partition (Some row) =
    one_share partition (record { partition = row.partition; units = row.cost })

pub quota_share : (partition : ℕ) (found : Option PartitionRow)
    → units_of partition (quota_of found) ≡ number_found (quota_in partition) found
quota_share partition None = refl
quota_share partition (Some row) =
    one_share partition (record { partition = row.parent; units = row.quota })

pub cost_instead_share : (partition cost : ℕ) (found : Option ObjectRow)
    → units_of partition (cost_instead cost found)
    ≡ number_found (cost_in partition) (option_map (with_cost cost) found)
cost_instead_share partition cost None = refl
cost_instead_share partition cost (Some row) =
    one_share partition (record { partition = row.partition; units = cost })

pub quota_instead_share : (partition quota : ℕ) (found : Option PartitionRow)
    → units_of partition (quota_instead quota found)
    ≡ number_found (quota_in partition) (option_map (with_quota quota) found)
quota_instead_share partition quota None = refl
quota_instead_share partition quota (Some row) =
    one_share partition (record { partition = row.parent; units = quota })

-- an object more

pub used_push : (objects : List ObjectRow) (row : ObjectRow) (partition : ℕ)
    → used_by (objects ++ row ∷ []) partition ≡ used_by objects partition + cost_in partition row
used_push objects row partition =
    used_sum (objects ++ row ∷ []) partition ∙ sum_by_push (cost_in partition) objects row
    ∙ ap (λ (n : ℕ). n + cost_in partition row) (sym (used_sum objects partition))

either_none : (here : Bool) (n : ℕ) → n ≡ 0 → (if here then n else 0) ≡ 0
either_none true n none = none
either_none false n none = refl

-- a new partition has no quota
no_quota : (k : Kind) (serial parent : Serial) (partition : ℕ)
    → sum_by (quota_in partition) (new_partitions k serial parent) ≡ 0
no_quota kind.Partition serial parent partition =
    let none : quota_in partition (record { serial = serial; parent = parent; quota = 0 }) ≡ 0 =
    either_none (parent.0 == partition) 0 refl in
    let sum : sum_by (quota_in partition)
    (record { serial = serial; parent = parent; quota = 0 } ∷ [])
    ≡ quota_in partition (record { serial = serial; parent = parent; quota = 0 }) + 0 =
    sum_by-cons (quota_in partition) (record { serial = serial; parent = parent; quota = 0 })
    [] in
    omega arith
no_quota kind.Cspace serial parent partition = refl
no_quota kind.Space serial parent partition = refl
no_quota kind.Extent serial parent partition = refl
no_quota kind.Bell serial parent partition = refl
no_quota kind.Queue serial parent partition = refl

pub given_push : (partitions : List PartitionRow) (k : Kind) (serial parent : Serial)
    (partition : ℕ)
    → given_by (partitions ++ new_partitions k serial parent) partition
    ≡ given_by partitions partition
given_push partitions k serial parent partition =
    let sum : sum_by (quota_in partition) (partitions ++ new_partitions k serial parent)
    ≡ sum_by (quota_in partition) partitions
    + sum_by (quota_in partition) (new_partitions k serial parent) =
    sum_by-append (quota_in partition) partitions (new_partitions k serial parent) in
    omega (
      arith,
      given_sum (partitions ++ new_partitions k serial parent) partition,
      given_sum
          partitions partition,
      no_quota k serial parent partition,
    )

-- a row changed

pub used_kept : (q : ObjectRow → Bool) (change : ObjectRow → ObjectRow) (objects : List ObjectRow)
    (partition : ℕ) → ((row : ObjectRow) → cost_in partition (change row) ≡ cost_in partition row)
    → used_by (change_row q change objects) partition ≡ used_by objects partition
used_kept q change objects partition kept =
    used_sum (change_row q change objects) partition
    ∙ sum_change_kept (cost_in partition) q change objects kept
    ∙ sym (used_sum objects partition)

pub used_change : (q : ObjectRow → Bool) (change : ObjectRow → ObjectRow) (objects : List ObjectRow)
    (partition : ℕ)
    → used_by (change_row q change objects) partition
    + number_found (cost_in partition) (find q objects)
    ≡ used_by objects partition
    + number_found (cost_in partition) (option_map change (find q objects))
used_change q change objects partition =
    omega (
      arith,
      used_sum (change_row q change objects) partition,
      used_sum objects partition,
      sum_change (cost_in partition) q change objects,
    )

pub given_change : (q : PartitionRow → Bool) (change : PartitionRow → PartitionRow)
    (partitions : List PartitionRow) (partition : ℕ)
    → given_by (change_row q change partitions) partition
    + number_found (quota_in partition) (find q partitions)
    ≡ given_by partitions partition
    + number_found (quota_in partition) (option_map change (find q partitions))
given_change q change partitions partition =
    omega (
      arith,
      given_sum (change_row q change partitions) partition,
      given_sum partitions
          partition,
      sum_change (quota_in partition) q change partitions,
    )

-- a row taken away

pub used_without : (q : ObjectRow → Bool) (objects : List ObjectRow) (partition : ℕ)
    → count_by q objects ≤ 1
    → used_by (without q objects) partition + number_found (cost_in partition) (find q objects)
    ≡ used_by objects partition
used_without q objects partition once =
    omega (
      arith,
      used_sum (without q objects) partition,
      used_sum objects partition,
      sum_without
          (cost_in partition) q objects once,
    )

pub given_without : (q : PartitionRow → Bool) (partitions : List PartitionRow) (partition : ℕ)
    → count_by q partitions ≤ 1
    → given_by (without q partitions) partition
    + number_found (quota_in partition) (find q partitions) ≡ given_by partitions partition
given_without q partitions partition once =
    omega (
      arith,
      given_sum (without q partitions) partition,
      given_sum partitions partition,
      sum_without (quota_in partition) q partitions once,
    )
