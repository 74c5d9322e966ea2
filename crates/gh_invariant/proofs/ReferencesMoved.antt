-- What each change does to the references of an object, list by list.
use Rattle.std.proofs.Common.{◌≡◌, ◌+◌, ◌≤◌, ◌<◌, ◌∙◌, ◌&&◌, ◌==◌, ◌||◌, ℕ, Bool, true, false, not, List, [], ◌∷◌, ◌++◌, inl, inr, refl, subst, sym, ap, arith, Option, Some, None, find, option_map, if◌then◌else◌}
use Rattle.std.specs.Prelude.{count_by}
use Rattle.std.proofs.lemmas.Bool.Decides.{eqb_tells, nat_tests}
use Rattle.gh_base.specs.declared.ids.Serial.{Serial}
use Rattle.gh_base.specs.declared.kind.Kind.{Kind}
use Rattle.gh_base.specs.declared.kind.Kind.TheVariants as kind
use Rattle.gh_model.specs.QueueCalls.{one_if}
use Rattle.gh_model.specs.Changes.{new_partitions, without, as_revoked, as_exited}
use Rattle.gh_model.specs.References.{is_capability_of, is_slot_of, is_inhabitant_of, is_child_of, is_root_extent, is_boot_partition, is_mapping_of, is_attached_to, uses_link, is_space_of}
use Rattle.gh_model.specs.Rows.{change_row, fills, is_object, is_extent, is_partition, is_cpu}
use Rattle.gh_model.specs.declared.rows.ObjectRow.{ObjectRow}
use Rattle.gh_model.specs.declared.rows.PartitionRow.{PartitionRow}
use Rattle.gh_model.specs.declared.rows.ExtentRow.{ExtentRow}
use Rattle.gh_model.specs.declared.rows.CapabilityRow.{CapabilityRow}
use Rattle.gh_model.specs.declared.rows.MappingRow.{MappingRow}
use Rattle.gh_model.specs.declared.rows.CpuRow.{CpuRow}
use Rattle.gh_model.specs.declared.rows.LinkRow.{LinkRow}
use Rattle.gh_invariant.specs.Effects.{is_that, times, object_of, slot_names, object_named, home_of, home_named, parent_of, parent_named, attachments}
use Rattle.gh_invariant.proofs.Counting.{count_found, count_cons, count_one, count_push, count_append, count_same, one_false}
use Rattle.gh_invariant.proofs.ChangedRow.{count_change, count_change_kept, find_change_seen}
use Rattle.gh_invariant.proofs.RowsLeft.{count_without, count_fewer, count_left}

-- how often an object stands in short lists

pub times_one : (object : ℕ) (serial : Serial)
    → times object (serial ∷ []) ≡ one_if (serial.0 == object)
times_one object serial = count_one (is_that object) serial

pub times_two : (object : ℕ) (first second : Serial)
    → times object (first ∷ second ∷ []) ≡ one_if (first.0 == object) + one_if (second.0 == object)
times_two object first second =
    omega (arith, count_cons (is_that object) first (second ∷ []), times_one object second)

times_if : (object : ℕ) (there : Bool) (serial : Serial)
    → times object (if there then serial ∷ [] else []) ≡ one_if (there && (serial.0 == object))
times_if object true serial = times_one object serial
times_if object false serial = refl

-- capabilities

module _ (object : ℕ) where
  -- a capability refers to its object while it is valid
  pub times_object : (row : CapabilityRow)
      → times object (object_of row) ≡ one_if (is_capability_of object row)
  times_object row = times_if object row.valid row.serial

  -- a filled slot refers to its capability space and to its object
  pub times_slot : (row : CapabilityRow)
      → times object (slot_names (Some row))
      ≡ one_if (is_slot_of object row) + one_if (is_capability_of object row)
  times_slot row =
      let all : times object (slot_names (Some row)) ≡ one_if (is_slot_of object row) + times object (object_of row) =
      count_cons (is_that object) row.cspace (object_of row) in
      let last : times object (object_of row) ≡ one_if (is_capability_of object row) =
      times_object row in
      omega arith

  times_slots : (found : Option CapabilityRow)
      → times object (slot_names found)
      ≡ count_found (is_slot_of object) found + count_found (is_capability_of object) found
  times_slots None = refl
  times_slots (Some row) = times_slot row

  -- a slot that is filled
  pub caps_put : (caps : List CapabilityRow) (row : CapabilityRow)
      → count_by (is_capability_of object) (caps ++ row ∷ []) + count_by (is_slot_of object) (caps ++ row ∷ [])
      ≡ count_by (is_capability_of object) caps + count_by (is_slot_of object) caps + times object (slot_names (Some row))
  caps_put caps row =
      omega (arith, count_push (is_capability_of object) caps row, count_push (is_slot_of object) caps row, times_slot row)

  -- a slot that is emptied
  pub caps_dropped : (caps : List CapabilityRow) (cspace slot : ℕ)
      → count_by (fills cspace slot) caps ≤ 1
      → count_by (is_capability_of object) (without (fills cspace slot) caps)
      + count_by (is_slot_of object) (without (fills cspace slot) caps) + times object (slot_names (find (fills cspace slot) caps))
      ≡ count_by (is_capability_of object) caps + count_by (is_slot_of object) caps
  caps_dropped caps cspace slot once =
      omega (arith, count_without (is_capability_of object) (fills cspace slot) caps once, count_without (is_slot_of object) (fills cspace slot) caps once, times_slots (find (fills cspace slot) caps))

  valid_found : (found : Option CapabilityRow)
      → times object (object_named found) ≡ count_found (is_capability_of object) found
  valid_found None = refl
  valid_found (Some row) = times_object row

  none_revoked : (found : Option CapabilityRow)
      → count_found (is_capability_of object) (option_map as_revoked found) ≡ 0
  none_revoked None = refl
  none_revoked (Some row) = refl

  -- a slot that is revoked
  pub caps_revoked : (caps : List CapabilityRow) (cspace slot : ℕ)
      → count_by (is_capability_of object) (change_row (fills cspace slot) as_revoked caps)
      + count_by (is_slot_of object) (change_row (fills cspace slot) as_revoked caps) + times object (object_named (find (fills cspace slot) caps))
      ≡ count_by (is_capability_of object) caps + count_by (is_slot_of object) caps
  caps_revoked caps cspace slot =
      omega (
        arith,
        count_change (is_capability_of object) (fills cspace slot) as_revoked caps,
        count_change_kept (is_slot_of object) (fills cspace slot) as_revoked caps (λ row. refl),
        none_revoked (find (fills cspace slot) caps),
        valid_found (find (fills cspace slot) caps),
      )

  -- objects

  home_by : (partition serial : Serial) (lone : Bool) → (partition.0 == serial.0) ≡ lone
      → times object (if lone then [] else partition ∷ [])
      ≡ one_if ((partition.0 == object) && not (serial.0 == object))
  home_by partition serial true same = sym (one_false _ (grind (arith, nat_tests)))
  home_by partition serial false differs =
      times_one object partition ∙ ap one_if (grind (arith, nat_tests))

  -- an object refers to its partition, but for a partition that lives in itself
  pub times_home : (row : ObjectRow)
      → times object (home_of row) ≡ one_if (is_inhabitant_of object row)
  times_home row = home_by row.partition row.serial (row.partition.0 == row.serial.0) refl

  times_homes : (found : Option ObjectRow)
      → times object (home_named found) ≡ count_found (is_inhabitant_of object) found
  times_homes None = refl
  times_homes (Some row) = times_home row

  -- an object that is added
  pub home_put : (objects : List ObjectRow) (row : ObjectRow)
      → count_by (is_inhabitant_of object) (objects ++ row ∷ [])
      ≡ count_by (is_inhabitant_of object) objects + times object (home_of row)
  home_put objects row =
      omega (arith, count_push (is_inhabitant_of object) objects row, times_home row)

  -- an object that goes
  pub home_gone : (objects : List ObjectRow) (serial : ℕ) → count_by (is_object serial) objects ≤ 1
      → count_by (is_inhabitant_of object) (without (is_object serial) objects) + times object (home_named (find (is_object serial) objects))
      ≡ count_by (is_inhabitant_of object) objects
  home_gone objects serial once =
      omega (arith, count_without (is_inhabitant_of object) (is_object serial) objects once, times_homes (find (is_object serial) objects))

  -- extents

  parent_by : (parent serial : Serial) (root : Bool) → (parent.0 == 0) ≡ root → 0 < object
      → times object (if root then serial ∷ [] else parent ∷ [])
      ≡ one_if (parent.0 == object) + one_if ((serial.0 == object) && (parent.0 == 0))
  parent_by parent serial true is some =
      let other : one_if (parent.0 == object) ≡ 0 = one_false _ (grind (arith, nat_tests)) in
      let itself : ((serial.0 == object) && (parent.0 == 0)) ≡ (serial.0 == object) =
      grind (arith, nat_tests) in
      times_one object serial ∙ omega (arith, ap one_if itself)
  parent_by parent serial false is some =
      let other : one_if ((serial.0 == object) && (parent.0 == 0)) ≡ 0 =
      one_false _ (grind (arith, nat_tests)) in
      times_one object parent ∙ omega arith

  -- an extent refers to its parent, and the root to itself
  pub times_parent : 0 < object → (row : ExtentRow)
      → times object (parent_of row)
      ≡ one_if (is_child_of object row) + one_if (is_root_extent object row)
  times_parent some row = parent_by row.parent row.serial (row.parent.0 == 0) refl some

  times_parents : 0 < object → (found : Option ExtentRow)
      → times object (parent_named found)
      ≡ count_found (is_child_of object) found + count_found (is_root_extent object) found
  times_parents some None = refl
  times_parents some (Some row) = times_parent some row

  -- a span that is added
  pub extents_put : 0 < object → (extents : List ExtentRow) (row : ExtentRow)
      → count_by (is_child_of object) (extents ++ row ∷ []) + count_by (is_root_extent object) (extents ++ row ∷ [])
      ≡ count_by (is_child_of object) extents + count_by (is_root_extent object) extents + times object (parent_of row)
  extents_put some extents row =
      omega (arith, count_push (is_child_of object) extents row, count_push (is_root_extent object) extents row, times_parent some row)

  -- a span that goes
  pub extents_gone : 0 < object → (extents : List ExtentRow) (serial : ℕ)
      → count_by (is_extent serial) extents ≤ 1
      → count_by (is_child_of object) (without (is_extent serial) extents)
      + count_by (is_root_extent object) (without (is_extent serial) extents) + times object (parent_named (find (is_extent serial) extents))
      ≡ count_by (is_child_of object) extents + count_by (is_root_extent object) extents
  extents_gone some extents serial once =
      omega (
        arith,
        count_without (is_child_of object) (is_extent serial) extents once,
        count_without (is_root_extent object) (is_extent serial) extents once,
        times_parents some (find (is_extent serial) extents),
      )

  -- mapping rows

  pub either_one : (a b : Bool) → (a ≡ true → b ≡ true → ⊥) → one_if (a || b) ≡ one_if a + one_if b
  either_one true true apart = absurd (apart refl refl)
  either_one true false apart = refl
  either_one false b apart = let none : one_if false ≡ 0 = refl in omega arith

  -- a mapping row refers to its address space and to its extent, which are two
  pub times_mapping : (row : MappingRow) → (row.space.0 == row.extent.0) ≡ false
      → times object (row.space ∷ row.extent ∷ []) ≡ one_if (is_mapping_of object row)
  times_mapping row apart =
      times_two object row.space row.extent ∙ sym (either_one (row.space.0 == object) (row.extent.0 == object) (λ a b. grind (arith, nat_tests)))

  -- a mapping row that is added
  pub mappings_put : (mappings : List MappingRow) (row : MappingRow)
      → (row.space.0 == row.extent.0) ≡ false
      → count_by (is_mapping_of object) (mappings ++ row ∷ [])
      ≡ count_by (is_mapping_of object) mappings + times object (row.space ∷ row.extent ∷ [])
  mappings_put mappings row apart =
      omega (arith, count_push (is_mapping_of object) mappings row, times_mapping row apart)

  -- a mapping row that goes
  pub mappings_dropped : (mappings : List MappingRow) (test : MappingRow → Bool) (row : MappingRow)
      → count_by test mappings ≤ 1 → find test mappings ≡ Some row
      → (row.space.0 == row.extent.0) ≡ false
      → count_by (is_mapping_of object) (without test mappings) + times object (row.space ∷ row.extent ∷ [])
      ≡ count_by (is_mapping_of object) mappings
  mappings_dropped mappings test row once found apart =
      omega (arith, count_without (is_mapping_of object) test mappings once, ap (count_found (is_mapping_of object)) found, times_mapping row apart)

  -- CPUs

  attached_by : (row : CpuRow) (exited : Bool) → row.exited ≡ exited
      → (exited ≡ false → (row.cspace.0 == row.space.0) ≡ false)
      → times object (if exited then [] else row.cspace ∷ row.space ∷ [])
      ≡ one_if (((row.cspace.0 == object) || (row.space.0 == object)) && not exited)
  attached_by row true is apart = sym (one_false _ (grind (arith, nat_tests)))
  attached_by row false is apart =
      let two : one_if ((row.cspace.0 == object) || (row.space.0 == object)) ≡ one_if (row.cspace.0 == object) + one_if (row.space.0 == object) =
      either_one (row.cspace.0 == object) (row.space.0 == object) (λ a b. let differ : (row.cspace.0 == row.space.0) ≡ false = apart refl in grind (arith, nat_tests)) in
      let same : (((row.cspace.0 == object) || (row.space.0 == object)) && true) ≡ ((row.cspace.0 == object) || (row.space.0 == object)) =
      grind (arith, nat_tests) in
      times_two object row.cspace row.space ∙ sym two ∙ sym (ap one_if same)

  -- a CPU that hasn't exited refers to its capability space and its address space, which are two
  pub times_attached : (row : CpuRow) → (row.exited ≡ false → (row.cspace.0 == row.space.0) ≡ false)
      → times object (attachments (Some row)) ≡ one_if (is_attached_to object row)
  times_attached row apart = attached_by row row.exited refl apart

  attachments_found : (found : Option CpuRow)
      → ((row : CpuRow) → found ≡ Some row → row.exited ≡ false → (row.cspace.0 == row.space.0) ≡ false)
      → times object (attachments found) ≡ count_found (is_attached_to object) found
  attachments_found None apart = refl
  attachments_found (Some row) apart = times_attached row (apart row refl)

  exited_detached : (row : CpuRow) → is_attached_to object (as_exited row) ≡ false
  exited_detached row = grind (arith, nat_tests)

  none_exited : (found : Option CpuRow)
      → count_found (is_attached_to object) (option_map as_exited found) ≡ 0
  none_exited None = refl
  none_exited (Some row) = one_false _ (exited_detached row)

  -- a CPU that exits
  pub cpus_exited : (cpus : List CpuRow) (cpu : ℕ)
      → ((row : CpuRow) → find (is_cpu cpu) cpus ≡ Some row → row.exited ≡ false → (row.cspace.0 == row.space.0) ≡ false)
      → count_by (is_attached_to object) (change_row (is_cpu cpu) as_exited cpus) + times object (attachments (find (is_cpu cpu) cpus))
      ≡ count_by (is_attached_to object) cpus
  cpus_exited cpus cpu apart =
      omega (arith, count_change (is_attached_to object) (is_cpu cpu) as_exited cpus, none_exited (find (is_cpu cpu) cpus), attachments_found (find (is_cpu cpu) cpus) apart)

  -- the links refer to what they did
  pub links_stay : (links : List LinkRow) (cpus : List CpuRow) (cpu : ℕ)
      → count_by (uses_link (change_row (is_cpu cpu) as_exited cpus) object) links
      ≡ count_by (uses_link cpus object) links
  links_stay links cpus cpu =
      count_same (uses_link (change_row (is_cpu cpu) as_exited cpus) object) (uses_link cpus object) links
      (λ row. ap (λ (b : Bool). b || (row.extent.0 == object) || (row.request.0 == object) || (row.reply.0 == object))
      (find_change_seen (is_space_of object) (is_cpu row.vm.0) (is_cpu cpu) as_exited cpus (λ other. refl) (λ other. refl)))

  -- partitions

  no_boot_partition : (k : Kind) (serial parent : Serial) → (parent.0 == 0) ≡ false
      → count_by (is_boot_partition object) (new_partitions k serial parent) ≡ 0
  no_boot_partition kind.Partition serial parent some =
      let other : one_if ((serial.0 == object) && (parent.0 == 0)) ≡ 0 =
      one_false _ (grind (arith, nat_tests)) in
      count_one (is_boot_partition object) (record { serial = serial; parent = parent; quota = 0 }) ∙ other
  no_boot_partition kind.Cspace serial parent some = refl
  no_boot_partition kind.Space serial parent some = refl
  no_boot_partition kind.Extent serial parent some = refl
  no_boot_partition kind.Bell serial parent some = refl
  no_boot_partition kind.Queue serial parent some = refl

  -- a partition that is added is none of the boot
  pub boot_added : (partitions : List PartitionRow) (k : Kind) (serial parent : Serial)
      → (parent.0 == 0) ≡ false
      → count_by (is_boot_partition object) (partitions ++ new_partitions k serial parent)
      ≡ count_by (is_boot_partition object) partitions
  boot_added partitions k serial parent some =
      omega (arith, count_append (is_boot_partition object) partitions (new_partitions k serial parent), no_boot_partition k serial parent some)

  -- nor is one that goes without references
  pub boot_gone : (partitions : List PartitionRow) (serial : ℕ)
      → count_by (is_boot_partition serial) partitions ≡ 0
      → count_by (is_boot_partition object) (without (is_partition serial) partitions)
      ≡ count_by (is_boot_partition object) partitions
  boot_gone partitions serial none =
      elim (eqb_tells object serial) as (λ _. count_by (is_boot_partition object) (without (is_partition serial) partitions) ≡ count_by (is_boot_partition object) partitions) [
        | inl same ↦
            let old : count_by (is_boot_partition object) partitions ≡ 0 =
            subst (λ (n : ℕ). count_by (is_boot_partition n) partitions ≡ 0) (sym same.1) none in
            omega (arith, old, count_fewer (is_boot_partition object) (is_partition serial) partitions)
        | inr differs ↦ count_left (is_boot_partition object) (is_partition serial) partitions (λ row is. let other : (object == serial) ≡ false = differs.0 in grind (arith, nat_tests))
      ]
