-- What the parts tell of bodies, units and objects is what the rows say.
use Rattle.std.proofs.Common.{◌≡◌, ◌∙◌, ◌-◌, ℕ, true, List, Option, Some, None, refl, sym, ap, arith, find}
use Rattle.std.specs.Prelude.{slice_index_or}
use Rattle.std.specs.Option.{option_map, option_map_or}
use Rattle.std.proofs.lemmas.List.{get_or_past}
use Rattle.std.proofs.lemmas.Bool.{eqb-true}
use Rattle.gh_base.specs.declared.ids.ObjIndex.{ObjIndex}
use Rattle.gh_base.specs.declared.ids.Serial.{Serial}
use Rattle.gh_base.specs.declared.kind.Kind.TheVariants as kind
use Rattle.gh_invariant.proofs.Counting.{found_all, found_passes}
use Rattle.gh_invariant.specs.Lives.{is_housed}
use Rattle.gh_invariant.specs.Valid.{IsValidWithin}
use Rattle.gh_model.specs.Rows.{is_bell, is_object, is_partition}
use Rattle.gh_model.specs.Units.{free_units, given_by, row_quota, used_by}
use Rattle.gh_model.specs.declared.rows.ObjectRow.{ObjectRow}
use Rattle.gh_model.specs.declared.rows.PartitionRow.{PartitionRow}
use Rattle.gh_model.specs.declared.state.State.{State}
use Rattle.gh_parts.specs.Accounts.{free_of, partition_in}
use Rattle.gh_parts.specs.Bodies.{bell_in, body_of}
use Rattle.gh_parts.specs.Index.{found_index, index_of, serial_at}
use Rattle.gh_parts.specs.ObjectReads.{object_row_at, row_of_header}
use Rattle.gh_objects.specs.declared.header.Header.{Header}
use Rattle.gh_parts.specs.Shares.{body_at, place_at}
use Rattle.gh_parts.specs.Stands.{Stands, account_of, header_of, is_account}
use Rattle.gh_parts.specs.declared.body.Body.{Body}
use Rattle.gh_parts.specs.declared.body.Body.TheVariants.{Nothing}
use Rattle.gh_parts.specs.declared.parts.Parts.{Parts}
use Rattle.gh_parts.proofs.BodyLemmas.{body_none}
use Rattle.gh_parts.proofs.Living.{There, kind_there}
use Rattle.gh_parts.proofs.IndexLemmas.{found_at, unfound_past}

module _ (parts : Parts) (s : State) (stand : Stands parts s) where
  -- what is seen of an object's body is seen at the index that is found
  pub seen_told : {V : Type 0} (see : Body → V) (v : V) (serial : ℕ) (index : ObjIndex)
      → see (body_of parts.table.headers parts.shares serial) ≡ v → Some index ≡ found_index parts.table.headers serial
      → see (body_at parts.shares index.0) ≡ v
  seen_told see v serial index is found =
      ap (λ (i : ℕ). see (body_at parts.shares i)) (sym (found_at parts.table.headers serial index (sym found))) ∙ is

  -- and of nothing where none is found
  pub seen_untold : {V : Type 0} (see : Body → V) (v : V) (serial : ℕ)
      → see (body_of parts.table.headers parts.shares serial) ≡ v → None ≡ found_index parts.table.headers serial
      → see Nothing ≡ v
  seen_untold see v serial is none =
      ap see
      (sym (body_none parts.shares (index_of parts.table.headers serial) stand.objects.whole
      (omega (arith, stand.objects.indexed.indices, unfound_past parts.table.headers serial (sym none)))))
      ∙ is

  -- the bell at the index that is found
  pub bell_told : (serial : ℕ) (index : ObjIndex) → Some index ≡ found_index parts.table.headers serial
      → bell_in serial (body_at parts.shares index.0) ≡ find (is_bell serial) s.bells
  bell_told serial index found =
      seen_told (bell_in serial) (find (is_bell serial) s.bells) serial index (sym (stand.bells serial)) found

  -- and none where none is found
  pub bell_untold : (serial : ℕ) → None ≡ found_index parts.table.headers serial
      → None ≡ find (is_bell serial) s.bells
  bell_untold serial none =
      seen_untold (bell_in serial) (find (is_bell serial) s.bells) serial (sym (stand.bells serial)) none

  partition_by : (found : Option PartitionRow)
      → partition_in (option_map (account_of s.objects s.partitions) found) ≡ found
  partition_by None = refl
  partition_by (Some row) = refl

  -- the row of a partition
  pub partition_told : (serial : ℕ)
      → partition_in (find (is_account serial) parts.journal.accounts) ≡ find (is_partition serial) s.partitions
  partition_told serial = ap partition_in (stand.units serial) ∙ partition_by (find (is_partition serial) s.partitions)

  free_by : (serial : ℕ) (found : Option PartitionRow) → find (is_partition serial) s.partitions ≡ found
      → free_of (option_map (account_of s.objects s.partitions) found)
      ≡ row_quota found - used_by s.objects serial - given_by s.partitions serial
  free_by serial None is = omega arith
  free_by serial (Some row) is =
      ap (λ (n : ℕ). row.quota - used_by s.objects n - given_by s.partitions n)
      (eqb-true row.serial.0 serial (found_passes (is_partition serial) s.partitions row is))

  -- and the units that it has left
  pub free_told : (serial : ℕ) → free_of (find (is_account serial) parts.journal.accounts) ≡ free_units s serial
  free_told serial =
      ap free_of (stand.units serial) ∙ free_by serial (find (is_partition serial) s.partitions) refl

  -- an object's row
  module _ (valid : IsValidWithin s) where
    partition_serial : (row : ObjectRow) → is_housed s.objects row ≡ true
        → serial_at parts.table.headers (index_of parts.table.headers row.partition.0) ≡ row.partition
    partition_serial row housed =
        let home : There (find (is_object row.partition.0) s.objects) =
        kind_there kind.Partition (find (is_object row.partition.0) s.objects) housed in
        ap (λ (header : Option Header). option_map_or (λ (h : Header). h.serial) header (record { 0 = 0 }))
        (stand.objects.each row.partition.0 ∙ ap (option_map (header_of parts.table.headers)) home.is)
        ∙ ap (λ (n : ℕ). record { 0 = n })
        (eqb-true home.it.serial.0 row.partition.0 (found_passes (is_object row.partition.0) s.objects home.it home.is))

    row_told : (serial : ℕ) (row : ObjectRow) → find (is_object serial) s.objects ≡ Some row
        → row_of_header parts (index_of parts.table.headers serial) (header_of parts.table.headers row) ≡ row
    row_told serial row is =
        ap (λ (partition : Serial). record row {
          partition = partition;
          cost = (place_at parts.shares (index_of parts.table.headers serial)).cost;
          retired = slice_index_or parts.journal.retirements (index_of parts.table.headers serial) None;
        })
        (partition_serial row (found_all (is_object serial) (is_housed s.objects) s.objects row valid.objects.housed is))
        ∙ ap (λ (cost : ℕ). record row {
          cost = cost;
          retired = slice_index_or parts.journal.retirements (index_of parts.table.headers serial) None;
        })
        (stand.objects.costs serial row is)
        ∙ ap (λ (retired : Option (List ℕ)). record row { retired = retired }) (stand.objects.retired serial row is)

    object_by : (serial : ℕ) (found : Option ObjectRow) → find (is_object serial) s.objects ≡ found
        → option_map (row_of_header parts (index_of parts.table.headers serial))
        (option_map (header_of parts.table.headers) found) ≡ found
    object_by serial None is = refl
    object_by serial (Some row) is = ap Some (row_told serial row is)

    pub object_told : (serial : ℕ)
        → object_row_at parts (index_of parts.table.headers serial) ≡ find (is_object serial) s.objects
    object_told serial =
        ap (option_map (row_of_header parts (index_of parts.table.headers serial))) (stand.objects.each serial)
        ∙ object_by serial (find (is_object serial) s.objects) refl

    pub object_found : (serial : ℕ) (index : ObjIndex) → Some index ≡ found_index parts.table.headers serial
        → object_row_at parts index.0 ≡ find (is_object serial) s.objects
    object_found serial index found =
        ap (object_row_at parts) (sym (found_at parts.table.headers serial index (sym found))) ∙ object_told serial

    pub object_unfound : (serial : ℕ) → None ≡ found_index parts.table.headers serial
        → None ≡ find (is_object serial) s.objects
    object_unfound serial none =
        ap (option_map (row_of_header parts (index_of parts.table.headers serial)))
        (sym (get_or_past parts.table.headers (index_of parts.table.headers serial) None
        (unfound_past parts.table.headers serial (sym none))))
        ∙ object_told serial
