-- Each change moves just the units that it takes and returns.
use Rattle.std.proofs.Common.{◌≡◌, ◌+◌, ◌≤◌, ℕ, Bool, true, false, [], ◌∷◌, ◌++◌, refl, arith, Some, find}
use Rattle.std.specs.Prelude.{count_by}
use Rattle.std.proofs.lemmas.List.Sums.{sum_by-append, sum_by-cons, sum_by_push}
use Rattle.gh_base.specs.declared.ids.Serial.{Serial}
use Rattle.gh_base.specs.declared.kind.Kind.TheVariants as kind
use Rattle.gh_model.specs.Changes.{boot_object, boot_partition, changed, serial_of, with_cost, with_counters, with_quota, with_stage}
use Rattle.gh_model.specs.QueueCalls.{one_if}
use Rattle.gh_model.specs.Rows.{is_object, is_partition, object_row}
use Rattle.gh_model.specs.Units.{given_units, used_units}
use Rattle.gh_model.specs.declared.change.Change.{Change}
use Rattle.gh_model.specs.declared.change.Change.TheVariants.{PutCapability, DropCapability, RevokeCapability, AddObject, SetStage, Retire, Reclaim, GiveQuota, AddExtent, MovePages, PutMapping, DropMapping, SetBell, ConfigureQueue, PutMessage, DropMessage, EmptyQueue, Exit, Ring, SetPages, AddPartition, AddRoot, SetRoom, FillSlot, AddCpu, AddLink}
use Rattle.gh_model.specs.declared.rows.ObjectRow.{ObjectRow}
use Rattle.gh_model.specs.declared.rows.PartitionRow.{PartitionRow}
use Rattle.gh_model.specs.declared.state.State.{State}
use Rattle.gh_invariant.specs.Effects.{Share, cost_of, quota_of, returns, share_for, takes, units_of}
use Rattle.gh_invariant.specs.Lives.{lives_as}
use Rattle.gh_invariant.specs.Valid.{IsValidTo}
use Rattle.gh_invariant.proofs.UnitsMoved.{cost_instead_share, cost_share, given_change, given_push, given_sum, given_without, quota_in, quota_instead_share, quota_share, used_change, used_kept, used_push, used_without}

one_at_most : (b : Bool) → one_if b ≤ 1
one_at_most true = (let one : one_if true ≡ 1 = refl in omega arith)
one_at_most false = (let none : one_if false ≡ 0 = refl in omega arith)

-- a serial has one partition's row at most
pub partition_once : (last : ℕ) (s : State) → IsValidTo last s → (serial : ℕ)
    → count_by (is_partition serial) s.partitions ≤ 1
partition_once last s valid serial =
    omega (
      arith,
      valid.rows.partitions serial,
      one_at_most
          (lives_as s.objects serial kind.Partition),
    )

-- the units before and after a change, with those that it returns and takes
abbrev pub Moves : State → Change → ℕ → Type 0
Moves s change partition =
    used_units (changed s change) partition + given_units (changed s change) partition
    + units_of partition (returns s change)
    ≡ used_units s partition + given_units s partition + units_of partition (takes s change)

added : (s : State) (row : ObjectRow) (partition : ℕ) → Moves s (AddObject row) partition
added s row partition =
    let none : units_of partition [] ≡ 0 = refl in
    omega (
      arith,
      used_push s.objects row partition,
      given_push s.partitions row.kind row.serial
          row.partition partition,
      cost_share partition (Some row),
    )

given : (s : State) (one : Serial) (quota partition : ℕ) → Moves s (GiveQuota one quota) partition
given s one quota partition =
    omega (
      arith,
      given_change (is_partition one.0) (with_quota quota) s.partitions partition,
      quota_share partition (find (is_partition one.0) s.partitions),
      quota_instead_share
          partition quota (find (is_partition one.0) s.partitions),
    )

configured : (s : State) (queue : Serial) (depth size cost partition : ℕ)
    → Moves s (ConfigureQueue queue depth size cost) partition
configured s queue depth size cost partition =
    omega (
      arith,
      used_change (is_object queue.0) (with_cost cost) s.objects partition,
      cost_share
          partition (object_row s queue.0),
      cost_instead_share partition cost (object_row s queue.0),
    )

-- a partition of the boot costs itself a unit, and its quota is of no partition
founded : (s : State) (quota partition : ℕ) → Moves s (AddPartition quota) partition
founded s quota partition =
    let object : ObjectRow = boot_object s kind.Partition s.next_serial 1 in
    let row : PartitionRow = boot_partition s.next_serial quota in
    let cost : Share = record { partition = serial_of s.next_serial; units = 1 } in
    let given : Share = record { partition = serial_of 0; units = quota } in
    let none : units_of partition [] ≡ 0 = refl in
    omega (
      arith,
      used_push s.objects (boot_object s kind.Partition s.next_serial 1) partition,
      given_sum (s.partitions ++ boot_partition s.next_serial quota ∷ []) partition,
      given_sum s.partitions partition,
      sum_by_push (quota_in partition) s.partitions (boot_partition s.next_serial quota),
      sum_by-cons (share_for partition) cost (given ∷ []),
      sum_by-cons (share_for partition) given [],
    )

reclaimed : (last : ℕ) (s : State) (object : Serial) (partition : ℕ) → IsValidTo last s
    → Moves s (Reclaim object) partition
reclaimed last s object partition valid =
    let none : units_of partition [] ≡ 0 = refl in
    let both : units_of partition (returns s (Reclaim object))
    ≡ units_of partition (cost_of (object_row s object.0))
    + units_of partition (quota_of (find (is_partition object.0) s.partitions)) =
    sum_by-append (share_for partition) (cost_of (object_row s object.0))
    (quota_of (find (is_partition object.0) s.partitions)) in
    omega (
      arith,
      used_without (is_object object.0) s.objects partition
          (valid.objects.once object.0),
      given_without (is_partition object.0) s.partitions partition
          (partition_once last s valid object.0),
      cost_share partition (object_row s object.0),
      quota_share partition (find (is_partition object.0) s.partitions),
    )

-- what a partition uses and gives changes by what a change takes and returns
pub units_moved : (last : ℕ) (s : State) (change : Change) (partition : ℕ) → IsValidTo last s
    → Moves s change partition
units_moved last s (PutCapability row) partition valid = refl
units_moved last s (DropCapability cspace slot) partition valid = refl
units_moved last s (RevokeCapability cspace slot) partition valid = refl
units_moved last s (AddObject row) partition valid = added s row partition
units_moved last s (SetStage object stage) partition valid =
    omega (
      arith,
      used_kept (is_object object.0) (with_stage stage) s.objects partition
          (λ row. refl),
    )
units_moved last s (Retire object seen) partition valid =
    omega (
      arith,
      used_kept (is_object object.0) (with_counters seen) s.objects partition
          (λ row. refl),
    )
units_moved last s (Reclaim object) partition valid = reclaimed last s object partition valid
units_moved last s (GiveQuota one quota) partition valid = given s one quota partition
units_moved last s (AddExtent row) partition valid = refl
units_moved last s (MovePages first count holder) partition valid = refl
units_moved last s (PutMapping row) partition valid = refl
units_moved last s (DropMapping row) partition valid = refl
units_moved last s (SetBell row) partition valid = refl
units_moved last s (ConfigureQueue queue depth size cost) partition valid =
    configured s queue depth size cost partition
units_moved last s (PutMessage queue message) partition valid = refl
units_moved last s (DropMessage queue) partition valid = refl
units_moved last s (EmptyQueue queue) partition valid = refl
units_moved last s (Exit cpu) partition valid = refl
units_moved last s Ring partition valid = refl
units_moved last s (SetPages count) partition valid = refl
units_moved last s (AddPartition quota) partition valid = founded s quota partition
units_moved last s (AddRoot row) partition valid = refl
units_moved last s (SetRoom queue depth size) partition valid = refl
units_moved last s (FillSlot row) partition valid = refl
units_moved last s (AddCpu row) partition valid = refl
units_moved last s (AddLink row) partition valid = refl
