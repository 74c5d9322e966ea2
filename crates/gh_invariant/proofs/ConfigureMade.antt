-- The changes of the calls that make an object ready may be made: configure_partition,
-- configure_queue and derive. The object comes to its next stage first.
use Rattle.std.proofs.Common.{◌≡◌, ◌+◌, ◌-◌, ◌<◌, ◌≤◌, ◌∙◌, ℕ, zero, suc, Bool, true, false, not, refl, subst, sym, ap, arith, Option, Some, None, IsTrue, find, option_map}
use Rattle.std.specs.Prelude.{◌||◌, ◌==◌, is_some, nat_lt}
use Rattle.std.proofs.lemmas.Bool.{and_parts, eqb-true, leb-true}
use Rattle.gh_base.specs.Kind.{kind_number}
use Rattle.gh_base.specs.declared.errno.Errno.TheVariants.{ArgInval, Nomem}
use Rattle.gh_base.specs.declared.ids.Serial.{Serial}
use Rattle.gh_base.specs.declared.kind.Kind.{Kind}
use Rattle.gh_base.specs.declared.kind.Kind.TheVariants as kind
use Rattle.gh_base.specs.declared.limits.TheConstants.{MESSAGE_BYTES, PARTITION_UNITS, QUEUE_DEPTH}
use Rattle.gh_base.specs.declared.kind.Stage.TheVariants.{Ready}
use Rattle.gh_model.specs.Boot.{is_kind, is_of_kind, queue_cost}
use Rattle.gh_model.specs.Changes.{set_stage, with_stage}
use Rattle.gh_model.specs.Decide.{is_init}
use Rattle.gh_model.specs.Decisions.{is_init_row, is_init_stage}
use Rattle.gh_model.specs.ObjectCalls.{configure_partition, configure_queue, quota_given, room_cost, room_given}
use Rattle.gh_model.specs.QueueCalls.{one_if}
use Rattle.gh_model.specs.Rows.{is_extent, is_object, is_partition, object_row}
use Rattle.gh_model.specs.Units.{free_units, given_by, row_quota, used_by}
use Rattle.gh_model.specs.declared.rows.ExtentRow.{ExtentRow}
use Rattle.gh_model.specs.declared.rows.ObjectRow.{ObjectRow}
use Rattle.gh_model.specs.declared.rows.PartitionRow.{PartitionRow}
use Rattle.gh_model.specs.declared.state.State.{State}
use Rattle.gh_invariant.specs.Lives.{cost_fits, is_new, lives_as}
use Rattle.gh_invariant.specs.Grants.{MayMake}
use Rattle.gh_invariant.specs.Premises.{MayConfigure, MayGive}
use Rattle.gh_invariant.specs.Valid.{IsValid}
use Rattle.gh_model.proofs.ChangedRows.{find_changed}
use Rattle.gh_invariant.proofs.Counting.{found_all, found_passes, unfound}
use Rattle.gh_invariant.proofs.MayMake.{at_most_by, unless}
use Rattle.gh_invariant.proofs.ObjectsMade.{or_none}
use Rattle.gh_invariant.proofs.UnitsMoved.{used_kept}

-- the state in which the object is ready
abbrev pub ready : State → Serial → State
ready s object = set_stage object Ready s

module _ (s : State) (object : Serial) where
  -- what is found of the object, once it is ready
  pub ready_row : (row : ObjectRow) → object_row s object.0 ≡ Some row
      → object_row (ready s object) object.0 ≡ Some (with_stage Ready row)
  ready_row row found =
      find_changed (is_object object.0) (with_stage Ready) s.objects (λ row. refl) ∙ ap (option_map (with_stage Ready)) found

  -- the units that partitions have left are as before
  ready_units : (partition : ℕ) → free_units (ready s object) partition ≡ free_units s partition
  ready_units partition =
      ap (λ (used : ℕ). row_quota (find (is_partition partition) s.partitions) - used - given_by s.partitions partition)
      (used_kept (is_object object.0) (with_stage Ready) s.objects partition (λ row. refl))

-- an object that isn't configured has nothing yet
new_by : (init fits : Bool) → init ≡ true → (not init || fits) ≡ true → fits ≡ true
new_by true fits is all = all
new_by false fits is all = absurd (let never : ⊥ = cc in never)

init_by : (row : Option ObjectRow) (found : ObjectRow) → row ≡ Some found → is_init_row row ≡ true → is_init_stage found.stage ≡ true
init_by None found same is = absurd (let never : ⊥ = cc in never)
init_by (Some row) found same is = let e : row ≡ found = cc in ap (λ (r : ObjectRow). is_init_stage r.stage) (sym e) ∙ is

module _ (s : State) (valid : IsValid s) where
  pub new_object_is : (object : ℕ) (row : ObjectRow) → object_row s object ≡ Some row → is_init_row (object_row s object) ≡ true
      → IsTrue (is_new row.kind row.cost (find (is_partition row.serial.0) s.partitions) (find (is_extent row.serial.0) s.extents))
  new_object_is object row found init =
      let fits : IsTrue (cost_fits s.partitions s.extents row) =
      found_all (is_object object) (cost_fits s.partitions s.extents) s.objects row valid.units.costs found in
      new_by (is_init_stage row.stage) _ (init_by (object_row s object) row found init)
      (and_parts (nat_lt 0 row.cost) (not (is_init_stage row.stage) || is_new row.kind row.cost (find (is_partition row.serial.0) s.partitions) (find (is_extent row.serial.0) s.extents)) fits).1

-- what is new of its kind: a partition has no quota, a queue cost one unit, an extent has no span
partition_new : (k : Kind) (cost : ℕ) (partition : Option PartitionRow) (extent : Option ExtentRow)
    → (kind_number k == kind_number kind.Partition) ≡ true → IsTrue (is_new k cost partition extent) → (row_quota partition == 0) ≡ true
partition_new kind.Partition cost partition extent is new = new
partition_new kind.Cspace cost partition extent is new = absurd (let never : ⊥ = cc in never)
partition_new kind.Space cost partition extent is new = absurd (let never : ⊥ = cc in never)
partition_new kind.Extent cost partition extent is new = absurd (let never : ⊥ = cc in never)
partition_new kind.Bell cost partition extent is new = absurd (let never : ⊥ = cc in never)
partition_new kind.Queue cost partition extent is new = absurd (let never : ⊥ = cc in never)

queue_new : (k : Kind) (cost : ℕ) (partition : Option PartitionRow) (extent : Option ExtentRow)
    → (kind_number k == kind_number kind.Queue) ≡ true → IsTrue (is_new k cost partition extent) → (cost == 1) ≡ true
queue_new kind.Partition cost partition extent is new = absurd (let never : ⊥ = cc in never)
queue_new kind.Cspace cost partition extent is new = absurd (let never : ⊥ = cc in never)
queue_new kind.Space cost partition extent is new = absurd (let never : ⊥ = cc in never)
queue_new kind.Extent cost partition extent is new = absurd (let never : ⊥ = cc in never)
queue_new kind.Bell cost partition extent is new = absurd (let never : ⊥ = cc in never)
queue_new kind.Queue cost partition extent is new = new

pub extent_new : (k : Kind) (cost : ℕ) (partition : Option PartitionRow) (extent : Option ExtentRow)
    → (kind_number k == kind_number kind.Extent) ≡ true → IsTrue (is_new k cost partition extent) → not (is_some extent) ≡ true
extent_new kind.Partition cost partition extent is new = absurd (let never : ⊥ = cc in never)
extent_new kind.Cspace cost partition extent is new = absurd (let never : ⊥ = cc in never)
extent_new kind.Space cost partition extent is new = absurd (let never : ⊥ = cc in never)
extent_new kind.Extent cost partition extent is new = new
extent_new kind.Bell cost partition extent is new = absurd (let never : ⊥ = cc in never)
extent_new kind.Queue cost partition extent is new = absurd (let never : ⊥ = cc in never)

pub none_there : {R : Type 0} (found : Option R) → not (is_some found) ≡ true → found ≡ None
none_there None none = refl
none_there (Some row) none = absurd (let never : ⊥ = cc in never)

-- an object that is in stage init is found
pub init_found : (row : Option ObjectRow) → is_init_row row ≡ true → (found : ObjectRow) × (row ≡ Some found)
init_found None is = absurd (let never : ⊥ = cc in never)
init_found (Some row) is = (row, refl)

pub row_of_kind : (k : Kind) (row : Option ObjectRow) (found : ObjectRow) → row ≡ Some found → IsTrue (is_of_kind k row)
    → (kind_number found.kind == kind_number k) ≡ true
row_of_kind k None found same is = absurd (let never : ⊥ = cc in never)
row_of_kind k (Some row) found same is =
    let e : row ≡ found = cc in ap (λ (r : ObjectRow). kind_number r.kind == kind_number k) (sym e) ∙ is

none_rows_by : (none : ℕ) (b : Bool) → none ≤ one_if b → b ≡ false → none ≡ 0
none_rows_by none true few is = absurd (let never : ⊥ = cc in never)
none_rows_by none false few is = let zero : one_if false ≡ 0 = refl in omega arith

module _ (s : State) (valid : IsValid s) where
  -- nothing has serial 0
  pub nobody : (k : Kind) → lives_as s.objects 0 k ≡ false
  nobody k = ap (is_of_kind k) (unfound (is_object 0) s.objects valid.objects.none)

  -- so no units come from there
  no_units : free_units s 0 ≡ 0
  no_units =
      let none : find (is_partition 0) s.partitions ≡ None =
      unfound (is_partition 0) s.partitions (valid.rows.partitions 0 ∙ ap one_if (nobody kind.Partition)) in
      ap (λ (row : Option PartitionRow). row_quota row - used_by s.objects 0 - given_by s.partitions 0) none ∙ omega arith

  called : (parent quota : ℕ) → 0 < quota → quota ≤ free_units s parent → 0 < parent
  called parent quota some units = above parent units
    where
      above : (parent : ℕ) → quota ≤ free_units s parent → 0 < parent
      above zero units = let none : free_units s 0 ≡ 0 = no_units in absurd (omega arith)
      above (suc parent) units = omega arith

  -- the stage of an object that is ready now
  pub ready_stage : (object : Serial) (row later : ObjectRow) → object_row s object.0 ≡ Some row
      → object_row (ready s object) object.0 ≡ Some later → is_init_stage later.stage ≡ false
  ready_stage object row later found is =
      let now : object_row (ready s object) object.0 ≡ Some (with_stage Ready row) = ready_row s object row found in
      let same : with_stage Ready row ≡ later = cc in
      ap (λ (r : ObjectRow). is_init_stage r.stage) (sym same)

  pub own_serial : (object : Serial) (row : ObjectRow) → object_row s object.0 ≡ Some row → row.serial.0 ≡ object.0
  own_serial object row found = eqb-true row.serial.0 object.0 (found_passes (is_object object.0) s.objects row found)

  pub ready_kind : (k : Kind) (object : Serial) (row : ObjectRow) → object_row s object.0 ≡ Some row
      → IsTrue (lives_as s.objects object.0 k) → IsTrue (is_kind (ready s object) object.0 k)
  ready_kind k object row found is =
      subst (λ (o : Option ObjectRow). IsTrue (is_of_kind k o)) (sym (ready_row s object row found))
      (row_of_kind k (object_row s object.0) row found is)

  quota_given_made : (partition : Serial) (quota : ℕ) (row : Option PartitionRow) → find (is_partition partition.0) s.partitions ≡ row
      → 0 < quota → quota ≤ PARTITION_UNITS → IsTrue (is_init s partition) → IsTrue (lives_as s.objects partition.0 kind.Partition)
      → MayMake s (quota_given s partition quota row)
  quota_given_made partition quota None found some small init is = tt
  quota_given_made partition quota (Some row) found some small init is =
      unless s (nat_lt (free_units s row.parent.0) quota) Nomem _ (λ enough.
      let there : (o : ObjectRow) × (object_row s partition.0 ≡ Some o) = init_found (object_row s partition.0) init in
      let object : ObjectRow = there.0 in
      let units : quota ≤ free_units s row.parent.0 = leb-true _ _ (at_most_by (free_units s row.parent.0) quota enough) in
      let kinds : (kind_number object.kind == kind_number kind.Partition) ≡ true =
      row_of_kind kind.Partition (object_row s partition.0) object there.1 is in
      let empty : (row_quota (find (is_partition object.serial.0) s.partitions) == 0) ≡ true =
      partition_new object.kind object.cost _ _ kinds (new_object_is s valid partition.0 object there.1 init) in
      let here : (row_quota (find (is_partition partition.0) s.partitions) == 0) ≡ true =
      subst (λ (n : ℕ). (row_quota (find (is_partition n) s.partitions) == 0) ≡ true) (own_serial partition object there.1) empty in
      let none : row.quota ≡ 0 =
      eqb-true row.quota 0 (ap (λ (o : Option PartitionRow). row_quota o == 0) (sym found) ∙ here) in
      let give : MayGive (ready s partition) partition.0 quota = record {
        row = row;
        found = found;
        none = none;
        called = called row.parent.0 quota some units;
        small = small;
        units = subst (λ (n : ℕ). quota ≤ n) (sym (ready_units s partition row.parent.0)) units;
        stage = λ later later_is. ready_stage partition object later there.1 later_is;
      } in
      record { first = refl; others = record { first = give; others = tt } })

  pub configure_partition_made : (partition : Serial) (quota : ℕ) → 0 < quota → quota ≤ PARTITION_UNITS
      → IsTrue (is_init s partition) → IsTrue (lives_as s.objects partition.0 kind.Partition)
      → MayMake s (configure_partition s partition quota)
  configure_partition_made partition quota some small init is =
      unless s (nat_lt 128 quota) ArgInval _ (λ few. quota_given_made partition quota _ refl some small init is)

  room_given_made : (queue : Serial) (depth size : ℕ) (row : Option ObjectRow) → object_row s queue.0 ≡ row
      → depth ≤ QUEUE_DEPTH → size ≤ MESSAGE_BYTES → IsTrue (is_init s queue) → IsTrue (lives_as s.objects queue.0 kind.Queue)
      → MayMake s (room_given s queue depth size row)
  room_given_made queue depth size None found deep wide init is = tt
  room_given_made queue depth size (Some row) found deep wide init is =
      unless s (nat_lt (free_units s row.partition.0) (room_cost depth size)) Nomem _ (λ enough.
      let units : room_cost depth size ≤ free_units s row.partition.0 =
      leb-true _ _ (at_most_by (free_units s row.partition.0) (room_cost depth size) enough) in
      let kinds : (kind_number row.kind == kind_number kind.Queue) ≡ true =
      row_of_kind kind.Queue (object_row s queue.0) row found is in
      let one : row.cost ≡ 1 =
      eqb-true row.cost 1 (queue_new row.kind row.cost _ _ kinds (new_object_is s valid queue.0 row found init)) in
      let room : MayConfigure (ready s queue) queue.0 depth size (queue_cost depth size) = record {
        deep = deep;
        wide = wide;
        row = with_stage Ready row;
        found = ready_row s queue row found;
        kind = ready_kind kind.Queue queue row found is;
        stage = refl;
        one = one;
        some = omega arith;
        units = subst (λ (n : ℕ). queue_cost depth size ≤ n + 1) (sym (ready_units s queue row.partition.0)) (omega (arith, units));
      } in
      record { first = refl; others = record { first = room; others = tt } })

  pub configure_queue_made : (queue : Serial) (depth size : ℕ) → IsTrue (is_init s queue) → IsTrue (lives_as s.objects queue.0 kind.Queue)
      → MayMake s (configure_queue s queue depth size)
  configure_queue_made queue depth size init is =
      unless s (nat_lt 64 depth || nat_lt 1024 size) ArgInval _ (λ few.
      let both : (nat_lt 64 depth ≡ false) × (nat_lt 1024 size ≡ false) = or_none (nat_lt 64 depth) (nat_lt 1024 size) few in
      room_given_made queue depth size _ refl (leb-true _ _ (at_most_by 64 depth both.0)) (leb-true _ _ (at_most_by 1024 size both.1)) init is)
