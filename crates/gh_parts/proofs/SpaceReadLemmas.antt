-- What an address space's body tells is what its mapping rows say.
use Rattle.std.proofs.Common.{◌≡◌, ◌∙◌, ◌∷◌, ◌||◌, ℕ, Bool, true, false, List, [], Option, Some, None, refl, sym, ap, inl, inr}
use Rattle.std.proofs.Common.{filter, find, length, map, if◌then◌else◌}
use Rattle.std.specs.Prelude.{count_by}
use Rattle.std.specs.List.{list_any}
use Rattle.std.specs.Option.{option_map}
use Rattle.std.proofs.lemmas.Bool.{and_parts, both_ways, cases_Bool, eq-eqb, false_from_ne_true}
use Rattle.std.proofs.lemmas.List.{length-map}
use Rattle.std.proofs.lemmas.List.Sums.{length-filter}
use Rattle.gh_base.specs.declared.ids.Serial.{Serial}
use Rattle.gh_addrspace.specs.Rows.{is_chosen, overlaps as meets_mapping}
use Rattle.gh_addrspace.specs.Space.{Shows, Space as Mapped, lookup_at, with_access}
use Rattle.gh_addrspace.specs.declared.mapping.Chosen.TheVariants.{Pages}
use Rattle.gh_addrspace.specs.declared.mapping.Mapping.{Mapping}
use Rattle.gh_extent.specs.Extents.{row_span}
use Rattle.gh_invariant.proofs.Counting.{find_later}
use Rattle.gh_model.specs.Access.{access_at, covered_access, covers, holds, named_page, row_access}
use Rattle.gh_model.specs.Boot.{is_row_of, overlaps}
use Rattle.gh_model.specs.Changes.{is_mapping}
use Rattle.gh_model.specs.Memory.{covering_access, row_covers, span_access}
use Rattle.gh_model.specs.MemoryCalls.{mapping_row as mapping_row_of}
use Rattle.gh_model.specs.Rows.{is_extent}
use Rattle.gh_model.specs.declared.memory.MapRow.{MapRow}
use Rattle.gh_model.specs.declared.rows.ExtentRow.{ExtentRow}
use Rattle.gh_model.specs.declared.rows.MappingRow.{MappingRow}
use Rattle.gh_model.specs.declared.state.State.{State}
use Rattle.gh_parts.specs.Bodies.{body_of, mapping_row, mappings_in, space_in}
use Rattle.gh_parts.specs.SpaceReads.{access_in, overlaps_in, row_in, row_with, rows_in, run_row}
use Rattle.gh_parts.specs.Stands.{Stands, span_row_of}
use Rattle.gh_parts.specs.declared.body.Body.{Body}
use Rattle.gh_parts.specs.declared.body.Body.TheVariants.{Bell, Extent, NewQueue, Nothing, Queue, Space}
use Rattle.gh_parts.specs.declared.parts.Parts.{Parts}
use Rattle.gh_parts.proofs.MappingLemmas.{chosen_same, filter_here, filter_later}
use Rattle.gh_parts.proofs.StandsMapping.{any_mapped}

-- rows that pass a test pass a wider one
module _ {R : Type 0} (p q : R → Bool) (within : (row : R) → p row ≡ true → q row ≡ true) where
  fails_too : (row : R) → q row ≡ false → p row ≡ false
  fails_too row fails = false_from_ne_true (p row) (λ is. both_ways (q row) fails (within row is))

  any_within : (rows : List R) → list_any p (filter q rows) ≡ list_any p rows
  any_within [] = refl
  any_within (row ∷ rows) =
      elim (cases_Bool (q row)) [
        | inl passes ↦
            ap (list_any p) (filter_here q row rows passes) ∙ ap (λ (b : Bool). p row || b) (any_within rows)
        | inr fails ↦
            ap (list_any p) (filter_later q row rows fails)
            ∙ any_within rows
            ∙ sym (ap (λ (b : Bool). b || list_any p rows) (fails_too row fails))
      ]

  found_within : (rows : List R) → find p (filter q rows) ≡ find p rows
  found_within [] = refl
  found_within (row ∷ rows) =
      elim (cases_Bool (q row)) [
        | inl passes ↦
            ap (find p) (filter_here q row rows passes)
            ∙ ap (λ (o : Option R). if p row then Some row else o) (found_within rows)
        | inr fails ↦
            ap (find p) (filter_later q row rows fails)
            ∙ found_within rows
            ∙ sym (find_later p row rows (fails_too row fails))
      ]

-- a row that is made of another is found where that is
found_mapped : {R V : Type 0} (f : V → R) (p : R → Bool) (q : V → Bool) (vs : List V) → ((v : V) → p (f v) ≡ q v)
    → find p (map f vs) ≡ option_map f (find q vs)
found_mapped f p q [] same = refl
found_mapped {R} f p q (v ∷ vs) same =
    ap (λ (b : Bool). if b then Some (f v) else find p (map f vs)) (same v)
    ∙ ap (λ (o : Option R). if q v then Some (f v) else o) (found_mapped f p q vs same)
    ∙ elim (q v) as (λ b. (if b then Some (f v) else option_map f (find q vs)) ≡ option_map f (if b then Some v else find q vs)) [
      | true ↦ refl
      | false ↦ refl
    ]

-- the rows of an address space by its serial
module _ (s : State) (serial : ℕ) (body : Body)
    (rows : filter (is_row_of serial) s.mappings ≡ mappings_in serial body) where
  any_told : (base count : ℕ)
      → list_any (overlaps serial base count) (mappings_in serial body) ≡ list_any (overlaps serial base count) s.mappings
  any_told base count =
      ap (list_any (overlaps serial base count)) (sym rows)
      ∙ any_within (overlaps serial base count) (is_row_of serial)
      (λ row is. (and_parts _ _ (and_parts _ _ is).0).0) s.mappings

  count_told : length (mappings_in serial body) ≡ count_by (is_row_of serial) s.mappings
  count_told = ap length (sym rows) ∙ length-filter (is_row_of serial) s.mappings

  row_told : (extent base offset count : ℕ)
      → find (is_mapping serial extent base offset count) (mappings_in serial body)
      ≡ find (is_mapping serial extent base offset count) s.mappings
  row_told extent base offset count =
      ap (find (is_mapping serial extent base offset count)) (sym rows)
      ∙ found_within (is_mapping serial extent base offset count) (is_row_of serial)
      (λ row is. (and_parts _ _ (and_parts _ _ (and_parts _ _ (and_parts _ _ (and_parts _ _ is).0).0).0).0).1) s.mappings

  covering_told : (page : ℕ)
      → find (covers serial page) (mappings_in serial body) ≡ find (covers serial page) s.mappings
  covering_told page =
      ap (find (covers serial page)) (sym rows)
      ∙ found_within (covers serial page) (is_row_of serial) (λ row is. (and_parts _ _ is).0) s.mappings

-- a row overlaps pages exactly where its mapping does
meets_same : (serial base count : ℕ) (mapping : Mapping)
    → overlaps serial base count (mapping_row serial mapping) ≡ meets_mapping (run_row base count) mapping
meets_same serial base count mapping = rw (eq-eqb serial serial refl) refl

overlaps_same : (serial base count : ℕ) (body : Body)
    → overlaps_in base count body ≡ list_any (overlaps serial base count) (mappings_in serial body)
overlaps_same serial base count (Space space) =
    any_mapped (mapping_row serial) (overlaps serial base count) (meets_mapping (run_row base count)) space.mappings (meets_same serial base count)
overlaps_same serial base count Nothing = refl
overlaps_same serial base count (Bell words) = refl
overlaps_same serial base count NewQueue = refl
overlaps_same serial base count (Queue queue) = refl
overlaps_same serial base count (Extent span) = refl

count_same : (serial : ℕ) (body : Body) → rows_in body ≡ length (mappings_in serial body)
count_same serial (Space space) = sym (length-map space.mappings (mapping_row serial))
count_same serial Nothing = refl
count_same serial (Bell words) = refl
count_same serial NewQueue = refl
count_same serial (Queue queue) = refl
count_same serial (Extent span) = refl

-- the row of these pages
abbrev pages_row : Serial → Serial → ℕ → ℕ → ℕ → MappingRow
pages_row space extent base offset count = record {
  space = space;
  extent = extent;
  base = base;
  offset = offset;
  count = count;
  access = record { 0 = 0 };
  handle = 0;
}

mapped_rows : (space : Serial) (found : Option Mapping)
    → option_map (row_with space) (option_map (λ (m : Mapping). m.row) found) ≡ option_map (mapping_row space.0) found
mapped_rows space None = refl
mapped_rows space (Some mapping) = refl

row_same : (space extent : Serial) (base offset count : ℕ) (body : Body)
    → row_in space extent base offset count body
    ≡ find (is_mapping space.0 extent.0 base offset count) (mappings_in space.0 body)
row_same space extent base offset count (Space mapped) =
    mapped_rows space (find (is_chosen (Pages extent base offset count)) mapped.mappings)
    ∙ sym (found_mapped (mapping_row space.0) (is_mapping space.0 extent.0 base offset count)
    (is_chosen (Pages extent base offset count)) mapped.mappings
    (chosen_same (pages_row space extent base offset count)))
row_same space extent base offset count Nothing = refl
row_same space extent base offset count (Bell words) = refl
row_same space extent base offset count NewQueue = refl
row_same space extent base offset count (Queue queue) = refl
row_same space extent base offset count (Extent span) = refl

-- the access through a row is that through its mapping
module _ (s : State) (serial page : ℕ) where
  through_row : (mapping : Mapping) (found : Option ExtentRow)
      → option_map with_access (span_access s.holders mapping.row page (option_map row_span found))
      ≡ row_access s page (mapping_row serial mapping) found
  through_row mapping None = refl
  through_row mapping (Some extent) =
      elim (holds s mapping.row.extent.0 (named_page extent (mapping_row serial mapping) page)) as
      (λ b. option_map with_access (if b then Some (record { 0 = named_page extent (mapping_row serial mapping) page }, mapping.row.access.0) else None)
      ≡ (if b then Some (record { 0 = named_page extent (mapping_row serial mapping) page }, mapping.row.access) else None)) [
        | true ↦ refl
        | false ↦ refl
      ]

  through_found : (found : Option Mapping)
      → option_map with_access (covering_access (span_row_of s.extents) s.holders page (option_map (λ (m : Mapping). m.row) found))
      ≡ covered_access s page (option_map (mapping_row serial) found)
  through_found None = refl
  through_found (Some mapping) = through_row mapping (find (is_extent mapping.row.extent.0) s.extents)

  -- a mapping covers the page exactly where its row does
  covers_same : (mapping : Mapping) → covers serial page (mapping_row serial mapping) ≡ row_covers page mapping.row
  covers_same mapping = rw (eq-eqb serial serial refl) refl

  space_access : (space : Mapped) → Shows (span_row_of s.extents) s.holders space
      → lookup_at space page ≡ covered_access s page (find (covers serial page) (map (mapping_row serial) space.mappings))
  space_access space shows =
      ap (option_map with_access) (shows.access page)
      ∙ ap (λ (o : Option MapRow). option_map with_access (covering_access (span_row_of s.extents) s.holders page o))
      (found_mapped (λ (m : Mapping). m.row) (row_covers page) (λ (m : Mapping). row_covers page m.row) space.mappings (λ m. refl))
      ∙ through_found (find (λ (m : Mapping). row_covers page m.row) space.mappings)
      ∙ ap (covered_access s page)
      (sym (found_mapped (mapping_row serial) (covers serial page) (λ (m : Mapping). row_covers page m.row) space.mappings covers_same))

  access_same : (body : Body)
      → ((space : Mapped) → space_in body ≡ Some space → Shows (span_row_of s.extents) s.holders space)
      → access_in page body ≡ covered_access s page (find (covers serial page) (mappings_in serial body))
  access_same (Space space) shows = space_access space (shows space refl)
  access_same Nothing shows = refl
  access_same (Bell words) shows = refl
  access_same NewQueue shows = refl
  access_same (Queue queue) shows = refl
  access_same (Extent span) shows = refl

module _ (parts : Parts) (s : State) (stand : Stands parts s) (space : Serial) where
  abbrev body : Body
  body = body_of parts.table.headers parts.shares space.0

  pub overlaps_told : (base count : ℕ)
      → overlaps_in base count (body_of parts.table.headers parts.shares space.0) ≡ list_any (overlaps space.0 base count) s.mappings
  overlaps_told base count =
      overlaps_same space.0 base count body ∙ any_told s space.0 body (stand.spaces.mappings space.0) base count

  pub rows_told : rows_in (body_of parts.table.headers parts.shares space.0) ≡ count_by (is_row_of space.0) s.mappings
  rows_told = count_same space.0 body ∙ count_told s space.0 body (stand.spaces.mappings space.0)

  pub mapping_told : (extent : Serial) (base offset count : ℕ)
      → row_in space extent base offset count (body_of parts.table.headers parts.shares space.0)
      ≡ mapping_row_of s space extent base offset count
  mapping_told extent base offset count =
      row_same space extent base offset count body
      ∙ row_told s space.0 body (stand.spaces.mappings space.0) extent.0 base offset count

  pub access_told : (page : ℕ)
      → access_in page (body_of parts.table.headers parts.shares space.0) ≡ access_at s space.0 page
  access_told page =
      access_same s space.0 page body (stand.spaces.access space.0)
      ∙ ap (covered_access s page) (covering_told s space.0 body (stand.spaces.mappings space.0) page)
