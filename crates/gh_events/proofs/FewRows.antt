-- A valid state has few rows of each kind, and so each object has few references.
use Rattle.std.proofs.Common.{◌≡◌, ◌==◌, ◌+◌, ◌*◌, ◌≤◌, ℕ, Bool, true, false, List, [], ◌∷◌, length, refl, ap, arith, IsTrue, Option, Some, None, find}
use Rattle.std.specs.Prelude.{count_by, is_some, nat_lt, nat_le}
use Rattle.std.specs.List.{list_all, sum_by}
use Rattle.std.proofs.lemmas.Bool.{and_parts}
use Rattle.std.proofs.lemmas.Bool.Decides.{nat_tests}
use Rattle.std.proofs.lemmas.List.Sums.{sum_by-cons}
use Rattle.gh_base.specs.declared.kind.Kind.{Kind}
use Rattle.gh_base.specs.declared.kind.Kind.TheVariants as kind
use Rattle.gh_model.specs.Boot.{is_of_kind, is_row_of}
use Rattle.gh_model.specs.QueueCalls.{one_if}
use Rattle.gh_model.specs.References.{is_attached_to, is_boot_partition, is_capability_of, is_child_of, is_inhabitant_of, is_link_of, is_mapping_of, is_root_extent, is_share_of, is_slot_of, references}
use Rattle.gh_model.specs.Rows.{is_extent, is_object, is_partition}
use Rattle.gh_model.specs.declared.rows.ExtentRow.{ExtentRow}
use Rattle.gh_model.specs.declared.rows.MappingRow.{MappingRow}
use Rattle.gh_model.specs.declared.rows.ObjectRow.{ObjectRow}
use Rattle.gh_model.specs.declared.state.State.{State}
use Rattle.gh_invariant.specs.Lives.{lives, lives_as, mapping_stands, spans_row}
use Rattle.gh_invariant.specs.Valid.{IsValid}
use Rattle.gh_invariant.proofs.Counting.{all_by, count_most, count_same, found_one}
use Rattle.gh_events.proofs.Boxes.{Each, all_of, in_boxes, one_of, ones, sum_most}
use Rattle.gh_events.proofs.Finding.{same_number}
use Rattle.gh_events.proofs.LengthBound.{count_all}
use Rattle.gh_events.proofs.LengthEntries.{one_most}

turned : (a b : ℕ) → (a == b) ≡ (b == a)
turned a b = grind (arith, nat_tests)

-- so many for each object
times_all : (k : ℕ) (objects : List ObjectRow) → sum_by (λ (object : ObjectRow). k) objects ≡ length objects * k
times_all k [] = omega arith
times_all k (object ∷ objects) = grind (arith, sum_by-cons (λ (one : ObjectRow). k) object objects, times_all k objects)

found_one_by : (objects : List ObjectRow) (serial : ℕ) (found : Option ObjectRow) → find (is_object serial) objects ≡ found
    → is_some found ≡ true → 1 ≤ count_by (λ (object : ObjectRow). object.serial.0 == serial) objects
found_one_by objects serial None same some = absurd (let never : ⊥ = cc in never)
found_one_by objects serial (Some object) same some = found_one (is_object serial) objects object same

-- an object that lives is counted
found_lives : (objects : List ObjectRow) (serial : ℕ) → lives objects serial ≡ true
    → 1 ≤ count_by (λ (object : ObjectRow). object.serial.0 == serial) objects
found_lives objects serial is = found_one_by objects serial (find (is_object serial) objects) refl is

kind_there : (k : Kind) (found : Option ObjectRow) → is_of_kind k found ≡ true → is_some found ≡ true
kind_there k None is = absurd (let never : ⊥ = cc in never)
kind_there k (Some row) is = refl

-- rows of which each names an object that lives, and each object is named by few, are few
module _ {R : Type 0} (objects : List ObjectRow) (name : R → ℕ) (k : ℕ) (rows : List R) where
  named : ObjectRow → R → Bool
  named object row = object.serial.0 == name row

  few_named : IsTrue (list_all (λ (row : R). lives objects (name row)) rows)
      → ((serial : ℕ) → count_by (λ (row : R). serial == name row) rows ≤ k)
      → length rows ≤ length objects * k
  unfolding named
  few_named live few =
      let each : count_by (λ (row : R). true) rows ≤ sum_by (λ (object : ObjectRow). count_by (named object) rows) objects =
      in_boxes named objects (λ row. true) (λ (row : R). lives objects (name row)) rows (λ row lives_so here. found_lives objects (name row) lives_so) live in
      let most : sum_by (λ (object : ObjectRow). count_by (named object) rows) objects ≤ sum_by (λ (object : ObjectRow). k) objects =
      sum_most named (λ object. k) rows objects (λ object. few object.serial.0) in
      omega (arith, each, most, times_all k objects, ones rows)

module _ (s : State) (valid : IsValid s) where
  -- mappings: 64 of an address space
  space_named : (serial : ℕ) → count_by (λ (row : MappingRow). serial == row.space.0) s.mappings ≤ 64
  space_named serial =
      let same : count_by (λ (row : MappingRow). serial == row.space.0) s.mappings ≡ count_by (is_row_of serial) s.mappings =
      count_same (λ (row : MappingRow). serial == row.space.0) (is_row_of serial) s.mappings (λ row. turned serial row.space.0) in
      omega (arith, same, valid.mappings.few serial)

  mapping_lives : (row : MappingRow) → IsTrue (mapping_stands s.objects s.extents row) → IsTrue (lives s.objects row.space.0)
  mapping_lives row stands =
      let last = and_parts _ (spans_row row (find (is_extent row.extent.0) s.extents)) stands in
      let ends = and_parts _ (nat_le (row.base + row.count) 4096) last.0 in
      let some = and_parts _ (nat_lt 0 row.count) ends.0 in
      let extent = and_parts _ (lives_as s.objects row.extent.0 kind.Extent) some.0 in
      kind_there kind.Space (find (is_object row.space.0) s.objects) extent.0

  pub few_mappings : length s.mappings ≤ length s.objects * 64
  few_mappings =
      few_named s.objects (λ (row : MappingRow). row.space.0) 64 s.mappings
      (all_by (mapping_stands s.objects s.extents) (λ (row : MappingRow). lives s.objects row.space.0) s.mappings mapping_lives valid.mappings.stand)
      space_named

  -- extents: a span each
  span_named : (serial : ℕ) → count_by (λ (row : ExtentRow). serial == row.serial.0) s.extents ≤ 1
  span_named serial =
      let same : count_by (λ (row : ExtentRow). serial == row.serial.0) s.extents ≡ count_by (is_extent serial) s.extents =
      count_same (λ (row : ExtentRow). serial == row.serial.0) (is_extent serial) s.extents (λ row. turned serial row.serial.0) in
      omega (arith, same, valid.rows.extents serial, one_most (lives_as s.objects serial kind.Extent))

  extent_lives : Each (λ (row : ExtentRow). lives s.objects row.serial.0 ≡ true) s.extents
  extent_lives i row is =
      let one : 1 ≤ count_by (is_extent row.serial.0) s.extents =
      one_of (is_extent row.serial.0) s.extents i row is (same_number row.serial.0) in
      kind_there kind.Extent (find (is_object row.serial.0) s.objects)
      (counted (lives_as s.objects row.serial.0 kind.Extent) (omega (arith, one, valid.rows.extents row.serial.0)))
    where
      counted : (b : Bool) → 1 ≤ one_if b → b ≡ true
      counted true some = refl
      counted false some = let none : one_if false ≡ 0 = refl in absurd (omega arith)

  pub few_extents : length s.extents ≤ length s.objects * 1
  few_extents =
      few_named s.objects (λ (row : ExtentRow). row.serial.0) 1 s.extents
      (all_of (λ (row : ExtentRow). lives s.objects row.serial.0) s.extents extent_lives) span_named

  one_boot : (serial : ℕ) → count_by (is_boot_partition serial) s.partitions ≤ 1
  one_boot serial =
      let fewer : count_by (is_boot_partition serial) s.partitions ≤ count_by (is_partition serial) s.partitions =
      count_most (is_boot_partition serial) (is_partition serial) s.partitions (λ row is. (and_parts (row.serial.0 == serial) (row.parent.0 == 0) is).0) in
      omega (arith, fewer, valid.rows.partitions serial, one_most (lives_as s.objects serial kind.Partition))

  -- so references are few where objects, CPUs and links are
  pub few_references : (serial : ℕ)
      → references s serial ≤ 68 * length s.objects + length s.cpus + length s.links + 2 * length s.caps + 1
  few_references serial =
      let no_parcels : count_by (is_share_of serial) s.parcels ≡ 0 = ap (count_by (is_share_of serial)) valid.parcels in
      omega (
        arith,
        few_mappings,
        few_extents,
        one_boot serial,
        no_parcels,
        count_all (is_capability_of serial) s.caps,
        count_all (is_mapping_of serial) s.mappings,
        count_all (is_child_of serial) s.extents,
        count_all (is_inhabitant_of serial) s.objects,
        count_all (is_slot_of serial) s.caps,
        count_all (is_attached_to serial) s.cpus,
        count_all (is_link_of s serial) s.links,
        count_all (is_root_extent serial) s.extents,
      )
