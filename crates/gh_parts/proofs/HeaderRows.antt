-- The rows of the headers: each header is that of a row, and lives in a partition that lives.
use Rattle.std.proofs.Common.{◌≡◌, ◌<◌, ◌∙◌, ℕ, true, List, Option, Some, None, refl, sym, ap, subst, find, IsTrue}
use Rattle.std.specs.Option.{option_map, option_map_or}
use Rattle.std.proofs.lemmas.Bool.{eqb-true}
use Rattle.gh_base.specs.declared.ids.Serial.{Serial}
use Rattle.gh_base.specs.declared.kind.Kind.{Kind}
use Rattle.gh_base.specs.declared.kind.Kind.TheVariants as kind
use Rattle.gh_base.specs.declared.limits.TheConstants.{OBJECT_INDICES}
use Rattle.gh_invariant.proofs.Counting.{found_all, found_passes}
use Rattle.gh_invariant.specs.Lives.{is_housed, lives_as}
use Rattle.gh_invariant.specs.Valid.{IsValidWithin}
use Rattle.gh_model.specs.Boot.{is_of_kind}
use Rattle.gh_model.specs.Rows.{is_object}
use Rattle.gh_model.specs.declared.rows.ObjectRow.{ObjectRow}
use Rattle.gh_model.specs.declared.state.State.{State}
use Rattle.gh_objects.specs.Headers.{header_at, is_partition, is_partition_kind}
use Rattle.gh_objects.specs.declared.header.Header.{Header}
use Rattle.gh_parts.specs.Index.{index_of, partition_in, serial_at}
use Rattle.gh_parts.specs.Stands.{StandsOwing, header_of}
use Rattle.gh_parts.specs.declared.parts.Parts.{Parts}
use Rattle.gh_parts.proofs.AddedBlocks.{AreHoused}
use Rattle.gh_parts.proofs.Living.{There, index_below, kind_there, same_kind}
use Rattle.gh_parts.proofs.Options.{some_same}

-- a kind that is that of partitions
pub kind_is : (k : Kind) → is_partition_kind k ≡ true → k ≡ kind.Partition
kind_is kind.Partition is = refl
kind_is kind.Cspace is = absurd (let never : ⊥ = cc in never)
kind_is kind.Space is = absurd (let never : ⊥ = cc in never)
kind_is kind.Extent is = absurd (let never : ⊥ = cc in never)
kind_is kind.Bell is = absurd (let never : ⊥ = cc in never)
kind_is kind.Queue is = absurd (let never : ⊥ = cc in never)

-- the row of a header
pub record RowAt (headers : List (Option Header)) (objects : List ObjectRow) (header : Header)
    : Type 0 where
  pub row : ObjectRow
  pub found : find (is_object header.serial.0) objects ≡ Some row
  pub is : header_of headers row ≡ header

row_by : (headers : List (Option Header)) (objects : List ObjectRow) (header : Header)
    (found : Option ObjectRow) → find (is_object header.serial.0) objects ≡ found
    → option_map (header_of headers) found ≡ Some header → RowAt headers objects header
row_by headers objects header None found is = absurd (let never : ⊥ = cc in never)
row_by headers objects header (Some row) found is =
    record { row = row; found = found; is = some_same (header_of headers row) header is }

module _ (owed : List Serial) (parts : Parts) (s : State) (stand : StandsOwing owed parts s) where
  abbrev headers : List (Option Header)
  headers = parts.table.headers

  pub row_at : (index : ℕ) (header : Header) → header_at headers index ≡ Some header
      → RowAt headers s.objects header
  row_at index header is =
      row_by headers s.objects header (find (is_object header.serial.0) s.objects) refl
      (sym (stand.objects.each header.serial.0)
      ∙ ap (header_at headers) (stand.objects.indexed.alone index header is)
      ∙ is)

  -- the header of a partition that lives is a partition's
  pub partition_at : (x : ℕ) → IsTrue (lives_as s.objects x kind.Partition)
      → is_partition (header_at headers (index_of headers x)) ≡ true
  partition_at x lives =
      let row : There (find (is_object x) s.objects) =
      kind_there kind.Partition (find (is_object x) s.objects) lives in
      let same : row.it.kind ≡ kind.Partition =
      same_kind row.it.kind kind.Partition
      (subst (λ (found : Option ObjectRow). is_of_kind kind.Partition found ≡ true) row.is lives) in
      ap is_partition (stand.objects.each x ∙ ap (option_map (header_of headers)) row.is)
      ∙ ap is_partition_kind same

  -- and it has an index
  pub partition_below : (x : ℕ) → IsTrue (lives_as s.objects x kind.Partition)
      → index_of headers x < OBJECT_INDICES
  partition_below x lives =
      let row : There (find (is_object x) s.objects) =
      kind_there kind.Partition (find (is_object x) s.objects) lives in
      index_below headers parts.shares parts.journal.retirements s.objects stand.objects x row.it row.is

  -- what lives, lives in a partition that lives
  pub housed_in : IsValidWithin s → (x : ℕ) (row : ObjectRow) → find (is_object x) s.objects ≡ Some row
      → IsTrue (lives_as s.objects row.partition.0 kind.Partition)
  housed_in valid x row is =
      found_all (is_object x) (is_housed s.objects) s.objects row valid.objects.housed is

  -- the header of an object tells its partition
  pub home_row : (x : ℕ) (row : ObjectRow) → IsValidWithin s → find (is_object x) s.objects ≡ Some row
      → serial_at headers (partition_in (header_at headers (index_of headers x))) ≡ row.partition
  home_row x row valid is =
      let home : There (find (is_object row.partition.0) s.objects) =
      kind_there kind.Partition (find (is_object row.partition.0) s.objects) (housed_in valid x row is) in
      let serial : home.it.serial.0 ≡ row.partition.0 =
      eqb-true home.it.serial.0 row.partition.0 (found_passes (is_object row.partition.0) s.objects home.it home.is) in
      ap (λ (header : Option Header). serial_at headers (partition_in header))
      (stand.objects.each x ∙ ap (option_map (header_of headers)) is)
      ∙ ap (λ (header : Option Header). option_map_or (λ (h : Header). h.serial) header (record { 0 = 0 }))
      (stand.objects.each row.partition.0 ∙ ap (option_map (header_of headers)) home.is)
      ∙ ap (λ (n : ℕ). record { 0 = n }) serial

  pub headers_housed : IsValidWithin s → AreHoused headers
  headers_housed valid index header is =
      let one : RowAt headers s.objects header = row_at index header is in
      subst (λ (h : Header). is_partition (header_at headers h.partition.0) ≡ true) one.is
      (partition_at one.row.partition.0 (housed_in valid header.serial.0 one.row one.found))
