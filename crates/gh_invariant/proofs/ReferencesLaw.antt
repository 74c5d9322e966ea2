-- Each change gives and takes just the references that it tells.
use Rattle.std.proofs.Common.{◌≡◌, ◌+◌, ◌≤◌, ◌<◌, ◌&&◌, ◌==◌, ℕ, Bool, true, false, not, List, refl, ap, arith, Some, IsTrue, find}
use Rattle.std.specs.Prelude.{count_by}
use Rattle.std.proofs.lemmas.Bool.{and_parts}
use Rattle.std.proofs.lemmas.Bool.Decides.{nat_tests}
use Rattle.gh_base.specs.declared.ids.Serial.{Serial}
use Rattle.gh_base.specs.declared.ids.CpuNo.{CpuNo}
use Rattle.gh_base.specs.declared.kind.Kind.TheVariants as kind
use Rattle.gh_base.specs.declared.kind.Stage.{Stage}
use Rattle.gh_model.specs.QueueCalls.{one_if}
use Rattle.gh_model.specs.Changes.{boot_object, boot_partition, changed, serial_of, without, with_stage, with_counters, with_cost, with_quota, is_in_cspace, is_mapping}
use Rattle.gh_model.specs.References.{references, is_capability_of, is_slot_of, is_inhabitant_of, is_child_of, is_root_extent, is_boot_partition, is_mapping_of, is_attached_to, is_link_of}
use Rattle.gh_model.specs.Rows.{is_object, is_extent, is_partition, is_cpu}
use Rattle.gh_model.specs.declared.change.Change.{Change}
use Rattle.gh_model.specs.declared.change.Change.TheVariants.{PutCapability, DropCapability, RevokeCapability, AddObject, SetStage, Retire, Reclaim, GiveQuota, AddExtent, MovePages, PutMapping, DropMapping, SetBell, ConfigureQueue, PutMessage, DropMessage, EmptyQueue, Exit, Ring, SetPages, AddPartition, AddRoot, SetRoom, FillSlot, AddCpu, AddLink}
use Rattle.gh_model.specs.declared.rows.ObjectRow.{ObjectRow}
use Rattle.gh_model.specs.declared.rows.ExtentRow.{ExtentRow}
use Rattle.gh_model.specs.declared.rows.CapabilityRow.{CapabilityRow}
use Rattle.gh_model.specs.declared.rows.MappingRow.{MappingRow}
use Rattle.gh_model.specs.declared.rows.CpuRow.{CpuRow}
use Rattle.gh_model.specs.declared.rows.LinkRow.{LinkRow}
use Rattle.gh_model.specs.declared.state.State.{State}
use Rattle.gh_invariant.specs.Effects.{is_that, times, gains, losses, home_named, parent_named}
use Rattle.gh_invariant.specs.Lives.{lives_as, mapping_stands, cpu_fits}
use Rattle.gh_invariant.specs.Premises.{MayChange, MayAdd, MayAttach, MayLink, MayReclaim, MayMap}
use Rattle.gh_invariant.specs.Valid.{IsValidTo}
use Rattle.gh_invariant.proofs.Counting.{count_append, count_push, found_all}
use Rattle.gh_invariant.proofs.ChangedRow.{count_change_kept}
use Rattle.gh_invariant.proofs.CpusAdded.{links_beside, links_put}
use Rattle.gh_invariant.proofs.RowsLeft.{without_none}
use Rattle.gh_invariant.proofs.MappingOnce.{mapping_apart, mapping_once}
use Rattle.gh_invariant.proofs.Living.{kinds_apart, lives_some}
use Rattle.gh_invariant.proofs.ReferencesMoved.{caps_put, caps_dropped, caps_revoked, home_put, home_gone, extents_put, extents_gone, mappings_put, mappings_dropped, cpus_exited, links_stay, boot_added, boot_gone, times_attached, times_one}

-- the change gives and takes what it tells
abbrev pub Moves : State → Change → ℕ → Type 0
Moves s change object =
    references (changed s change) object + times object (losses s change) ≡ references s object + times object (gains s change)

-- what nothing refers to, none of the ten refers to
pub record IsUnreferenced (s : State) (object : ℕ) : Type 0 where
  pub capabilities : count_by (is_capability_of object) s.caps ≡ 0
  pub mappings : count_by (is_mapping_of object) s.mappings ≡ 0
  pub children : count_by (is_child_of object) s.extents ≡ 0
  pub inhabitants : count_by (is_inhabitant_of object) s.objects ≡ 0
  pub slots : count_by (is_slot_of object) s.caps ≡ 0
  pub cpus : count_by (is_attached_to object) s.cpus ≡ 0
  pub links : count_by (is_link_of s object) s.links ≡ 0
  pub boot : count_by (is_boot_partition object) s.partitions ≡ 0
  pub root : count_by (is_root_extent object) s.extents ≡ 0

pub unreferenced : (s : State) (object : ℕ) → references s object ≡ 0 → IsUnreferenced s object
unreferenced s object none = record {
  capabilities = omega (arith, none);
  mappings = omega (arith, none);
  children = omega (arith, none);
  inhabitants = omega (arith, none);
  slots = omega (arith, none);
  cpus = omega (arith, none);
  links = omega (arith, none);
  boot = omega (arith, none);
  root = omega (arith, none);
}

module _ (last : ℕ) (s : State) (valid : IsValidTo last s) (object : ℕ) where
  put_moves : (row : CapabilityRow) → Moves s (PutCapability row) object
  put_moves row = omega (arith, caps_put object s.caps row)

  drop_moves : (cspace : Serial) (slot : ℕ) → Moves s (DropCapability cspace slot) object
  drop_moves cspace slot =
      omega (arith, caps_dropped object s.caps cspace.0 slot (valid.slots.once cspace.0 slot))

  revoke_moves : (cspace : Serial) (slot : ℕ) → Moves s (RevokeCapability cspace slot) object
  revoke_moves cspace slot = omega (arith, caps_revoked object s.caps cspace.0 slot)

  add_moves : (row : ObjectRow) → MayAdd s row → Moves s (AddObject row) object
  add_moves row may =
      let home : 0 < row.partition.0 =
      lives_some s.objects s.next_serial valid.objects row.partition.0 kind.Partition may.partition in
      omega (arith, home_put object s.objects row, boot_added object s.partitions row.kind row.serial row.partition (grind (arith, nat_tests)))

  stage_moves : (serial : Serial) (stage : Stage) → Moves s (SetStage serial stage) object
  stage_moves serial stage =
      omega (arith, count_change_kept (is_inhabitant_of object) (is_object serial.0) (with_stage stage) s.objects (λ row. refl))

  retire_moves : (serial : Serial) (seen : List ℕ) → Moves s (Retire serial seen) object
  retire_moves serial seen =
      omega (arith, count_change_kept (is_inhabitant_of object) (is_object serial.0) (with_counters seen) s.objects (λ row. refl))

  quota_moves : (partition : Serial) (quota : ℕ) → Moves s (GiveQuota partition quota) object
  quota_moves partition quota =
      omega (arith, count_change_kept (is_boot_partition object) (is_partition partition.0) (with_quota quota) s.partitions (λ row. refl))

  span_moves : 0 < object → (row : ExtentRow) → Moves s (AddExtent row) object
  span_moves some row = omega (arith, extents_put object some s.extents row)

  cost_moves : (queue : Serial) (depth size cost : ℕ)
      → Moves s (ConfigureQueue queue depth size cost) object
  cost_moves queue depth size cost =
      omega (arith, count_change_kept (is_inhabitant_of object) (is_object queue.0) (with_cost cost) s.objects (λ row. refl))

  reclaim_moves : 0 < object → (serial : Serial) → MayReclaim s serial.0
      → Moves s (Reclaim serial) object
  reclaim_moves some serial may =
      let none : IsUnreferenced s serial.0 = unreferenced s serial.0 may.doomed in
      let caps : without (is_in_cspace serial.0) s.caps ≡ s.caps =
      without_none (is_slot_of serial.0) s.caps none.slots in
      let mappings : without (is_mapping_of serial.0) s.mappings ≡ s.mappings =
      without_none (is_mapping_of serial.0) s.mappings none.mappings in
      let once : count_by (is_extent serial.0) s.extents ≤ 1 = one_span in
      omega (
        arith,
        ap (count_by (is_capability_of object)) caps,
        ap (count_by (is_slot_of object)) caps,
        ap (count_by (is_mapping_of object)) mappings,
        home_gone object s.objects serial.0 (valid.objects.once serial.0),
        extents_gone object some s.extents serial.0 once,
        boot_gone object s.partitions serial.0 none.boot,
        count_append (is_that object) (home_named (find (is_object serial.0) s.objects)) (parent_named (find (is_extent serial.0) s.extents)),
      )
    where
      one_most : (b : Bool) → one_if b ≤ 1
      one_most true = omega arith
      one_most false = omega arith

      one_span : count_by (is_extent serial.0) s.extents ≤ 1
      one_span =
          omega (arith, valid.rows.extents serial.0, one_most (lives_as s.objects serial.0 kind.Extent))

  map_moves : (row : MappingRow) → MayMap s row → Moves s (PutMapping row) object
  map_moves row may =
      omega (arith, mappings_put object s.mappings row (mapping_apart s.objects s.extents row may.stands))

  unmap_moves : (row : MappingRow)
      → find (is_mapping row.space.0 row.extent.0 row.base row.offset row.count) s.mappings
      ≡ Some row
      → Moves s (DropMapping row) object
  unmap_moves row found =
      omega (
        arith,
        mappings_dropped object s.mappings (is_mapping row.space.0 row.extent.0 row.base row.offset row.count) row
            (mapping_once s.objects s.extents row.space.0 row.extent.0 row.base row.offset row.count s.mappings valid.mappings.stand valid.mappings.apart)
            found (mapping_apart s.objects s.extents row (found_all _ (mapping_stands s.objects s.extents) s.mappings row valid.mappings.stand found)),
      )

  -- a CPU that hasn't exited is attached to two objects
  attached_apart : (row : CpuRow) → IsTrue (cpu_fits s.objects row) → row.exited ≡ false
      → (row.cspace.0 == row.space.0) ≡ false
  attached_apart row fits runs =
      let both : (lives_as s.objects row.cspace.0 kind.Cspace && lives_as s.objects row.space.0 kind.Space) ≡ true =
      rw runs at fits in
      let parts : (lives_as s.objects row.cspace.0 kind.Cspace ≡ true) × (lives_as s.objects row.space.0 kind.Space ≡ true) =
      and_parts _ _ both in
      kinds_apart s.objects row.cspace.0 row.space.0 kind.Cspace kind.Space parts.0 parts.1 refl

  fill_moves : (row : CapabilityRow) → Moves s (FillSlot row) object
  fill_moves row = omega (arith, caps_put object s.caps row)

  no_both : (b : Bool) → one_if (b && not b) ≡ 0
  no_both true = refl
  no_both false = refl

  one_and : (b : Bool) → one_if (b && true) ≡ one_if b
  one_and true = refl
  one_and false = refl

  partition_moves : (quota : ℕ) → Moves s (AddPartition quota) object
  partition_moves quota =
      omega (
        arith,
        count_push (is_inhabitant_of object) s.objects (boot_object s kind.Partition s.next_serial 1),
        no_both (s.next_serial == object),
        count_push (is_boot_partition object) s.partitions (boot_partition s.next_serial quota),
        one_and (s.next_serial == object),
        times_one object (serial_of s.next_serial),
      )

  root_moves : 0 < object → (row : ExtentRow) → Moves s (AddRoot row) object
  root_moves some row = omega (arith, extents_put object some s.extents row)

  attach_moves : (row : CpuRow) → MayAttach s row → Moves s (AddCpu row) object
  attach_moves row may =
      omega (
        arith,
        count_push (is_attached_to object) s.cpus row,
        times_attached object row (λ runs. kinds_apart s.objects row.cspace.0 row.space.0 kind.Cspace kind.Space may.cspace may.space refl),
        links_beside s.objects s.cpus row object s.links valid.cpus.linked,
      )

  link_moves : (row : LinkRow) → MayLink s row → Moves s (AddLink row) object
  link_moves row may = omega (arith, links_put s row may object)

  exit_moves : (cpu : CpuNo) → Moves s (Exit cpu) object
  exit_moves cpu =
      omega (
        arith,
        cpus_exited object s.cpus cpu.0 (λ row found runs. attached_apart row (found_all (is_cpu cpu.0) (cpu_fits s.objects) s.cpus row valid.cpus.attached found) runs),
        links_stay object s.links s.cpus cpu.0,
      )

  -- each change gives and takes what it tells
  pub moves : (change : Change) → 0 < object → MayChange s change → Moves s change object
  moves (PutCapability row) some may = put_moves row
  moves (DropCapability cspace slot) some may = drop_moves cspace slot
  moves (RevokeCapability cspace slot) some may = revoke_moves cspace slot
  moves (AddObject row) some may = add_moves row may
  moves (SetStage serial stage) some may = stage_moves serial stage
  moves (Retire serial seen) some may = retire_moves serial seen
  moves (Reclaim serial) some may = reclaim_moves some serial may
  moves (GiveQuota partition quota) some may = quota_moves partition quota
  moves (AddExtent row) some may = span_moves some row
  moves (MovePages first count holder) some may = refl
  moves (PutMapping row) some may = map_moves row may
  moves (DropMapping row) some may = unmap_moves row may
  moves (SetBell row) some may = refl
  moves (ConfigureQueue queue depth size cost) some may = cost_moves queue depth size cost
  moves (PutMessage queue message) some may = refl
  moves (DropMessage queue) some may = refl
  moves (EmptyQueue queue) some may = refl
  moves (Exit cpu) some may = exit_moves cpu
  moves Ring some may = refl
  moves (SetPages count) some may = refl
  moves (AddPartition quota) some may = partition_moves quota
  moves (AddRoot row) some may = root_moves some row
  moves (SetRoom queue depth size) some may = refl
  moves (FillSlot row) some may = fill_moves row
  moves (AddCpu row) some may = attach_moves row may
  moves (AddLink row) some may = link_moves row may
