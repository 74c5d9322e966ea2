-- An object that goes: nothing refers to it, and so no row but its own names it.
use Rattle.std.proofs.Common.{◌≡◌, ◌≢◌, ◌<◌, ◌∙◌, not, ℕ, true, false, List, Option, Some, None, sym, ap, arith}
use Rattle.std.proofs.Common.{length, find}
use Rattle.std.specs.Prelude.{count_by}
use Rattle.std.proofs.lemmas.Bool.{and_from, both_ways, eq-eqb, eqb-true, ne_eqb}
use Rattle.gh_base.specs.declared.kind.Kind.{Kind}
use Rattle.gh_base.specs.declared.limits.TheConstants.{OBJECT_INDICES}
use Rattle.gh_invariant.proofs.Counting.{found_passes}
use Rattle.gh_invariant.proofs.ObjectsFit.{lives_gone, lives_left}
use Rattle.gh_invariant.proofs.RowsLeft.{find_gone, find_left, without_none}
use Rattle.gh_invariant.proofs.RowsTested.{other_number}
use Rattle.gh_invariant.specs.Lives.{lives_as}
use Rattle.gh_invariant.specs.Premises.{MayReclaim}
use Rattle.gh_invariant.specs.Valid.{IsValidWithin}
use Rattle.gh_model.specs.Changes.{is_in_cspace, without}
use Rattle.gh_model.specs.References.{is_boot_partition, is_capability_of, is_inhabitant_of, is_mapping_of, is_slot_of}
use Rattle.gh_model.specs.Rows.{fills, is_object, is_partition}
use Rattle.gh_model.specs.declared.rows.CapabilityRow.{CapabilityRow}
use Rattle.gh_model.specs.declared.rows.ObjectRow.{ObjectRow}
use Rattle.gh_model.specs.declared.rows.PartitionRow.{PartitionRow}
use Rattle.gh_model.specs.declared.state.State.{State}
use Rattle.gh_objects.specs.declared.header.Header.{Header}
use Rattle.gh_parts.specs.Index.{index_of}
use Rattle.gh_parts.specs.Stands.{Stands}
use Rattle.gh_parts.specs.declared.parts.Parts.{Parts}
use Rattle.gh_parts.proofs.FoundRows.{found_fails}
use Rattle.gh_parts.proofs.Living.{index_below}

-- the object lives and may be reclaimed
pub record Leaves (parts : Parts) (s : State) (object : ℕ) : Type 0 where
  pub stand : Stands parts s
  pub valid : IsValidWithin s
  pub may : MayReclaim s object
  pub row : ObjectRow
  pub found : find (is_object object) s.objects ≡ Some row

module _ (parts : Parts) (s : State) (object : ℕ) (leaves : Leaves parts s object) where
  abbrev headers : List (Option Header)
  headers = parts.table.headers

  abbrev pub objects_left : List ObjectRow
  objects_left = without (is_object object) s.objects

  pub leaves_below : index_of headers object < OBJECT_INDICES
  leaves_below =
      index_below headers parts.shares parts.journal.retirements s.objects leaves.stand.objects object leaves.row leaves.found

  pub leaves_within : index_of headers object < length headers
  leaves_within = omega (arith, leaves_below, leaves.stand.objects.indexed.indices)

  pub found_gone : find (is_object object) objects_left ≡ None
  found_gone = find_gone (is_object object) (is_object object) s.objects (λ row fails. fails)

  pub found_left : (x : ℕ) → x ≢ object → find (is_object x) objects_left ≡ find (is_object x) s.objects
  found_left x apart =
      find_left (is_object x) (is_object object) s.objects
      (λ row is. other_number row.serial.0 x object (ne_eqb x object apart) is)

  pub lives_still : (x : ℕ) (k : Kind) → x ≢ object → lives_as objects_left x k ≡ lives_as s.objects x k
  lives_still x k apart = lives_left s.objects object x k (ne_eqb x object apart)

  pub lives_never : (k : Kind) → lives_as objects_left object k ≡ false
  lives_never k = lives_gone s.objects object k

  -- no object lives in it
  no_inhabitant : count_by (is_inhabitant_of object) s.objects ≡ 0
  no_inhabitant = omega (arith, leaves.may.doomed)

  pub home_elsewhere : (x : ℕ) (row : ObjectRow) → x ≢ object → find (is_object x) s.objects ≡ Some row
      → row.partition.0 ≢ object
  home_elsewhere x row apart is same =
      let fails : is_inhabitant_of object row ≡ false =
      found_fails (is_object x) (is_inhabitant_of object) s.objects row no_inhabitant is in
      let serial : row.serial.0 ≡ x = eqb-true row.serial.0 x (found_passes (is_object x) s.objects row is) in
      both_ways (is_inhabitant_of object row) fails
      (and_from _ _ (eq-eqb row.partition.0 object same)
      (ap not (ne_eqb row.serial.0 object (λ also. apart (sym serial ∙ also)))))

  -- no valid capability names it
  pub capability_apart : (c n : ℕ) (row : CapabilityRow) → find (fills c n) s.caps ≡ Some row
      → row.valid ≡ true → row.serial.0 ≢ object
  capability_apart c n row is valid same =
      both_ways (is_capability_of object row)
      (found_fails (fills c n) (is_capability_of object) s.caps row
      (let none : count_by (is_capability_of object) s.caps ≡ 0 = omega (arith, leaves.may.doomed) in none) is)
      (and_from _ _ valid (eq-eqb row.serial.0 object same))

  no_slot : count_by (is_slot_of object) s.caps ≡ 0
  no_slot = omega (arith, leaves.may.doomed)

  no_mapping : count_by (is_mapping_of object) s.mappings ≡ 0
  no_mapping = omega (arith, leaves.may.doomed)

  -- it isn't a partition of the boot
  pub parent_some : (row : PartitionRow) → find (is_partition object) s.partitions ≡ Some row
      → row.parent.0 ≢ 0
  parent_some row is none =
      both_ways (is_boot_partition object row)
      (found_fails (is_partition object) (is_boot_partition object) s.partitions row
      (let no : count_by (is_boot_partition object) s.partitions ≡ 0 = omega (arith, leaves.may.doomed) in no) is)
      (and_from _ _ (found_passes (is_partition object) s.partitions row is) (eq-eqb row.parent.0 0 none))

  pub caps_stay : without (is_in_cspace object) s.caps ≡ s.caps
  caps_stay = without_none (is_in_cspace object) s.caps no_slot

  pub mappings_stay : without (is_mapping_of object) s.mappings ≡ s.mappings
  mappings_stay = without_none (is_mapping_of object) s.mappings no_mapping
