-- The parts stand for the rows once a row is mapped; and when it can be.
use Rattle.std.proofs.Common.{◌≡◌, ◌<◌, ◌≤◌, ◌+◌, ◌-◌, ◌∙◌, ◌∷◌, ◌++◌, ◌||◌, ℕ, Bool, true, false, List, [], Option, Some, None}
use Rattle.std.proofs.Common.{refl, sym, ap, subst, arith, inl, inr, filter, find, length, map, nat_le, nat_lt}
use Rattle.std.specs.Prelude.{IsSomeAnd, ◌^◌}
use Rattle.std.specs.List.{list_any}
use Rattle.std.specs.Option.{option_map}
use Rattle.std.proofs.lemmas.Bool.{and_parts, cases_Bool, cases_eq, eq-eqb, le-ltb, leb-true, lt-leb, ne_eqb, or_from, or_parts}
use Rattle.std.proofs.lemmas.List.{append-nil, length-map, map-append}
use Rattle.std.proofs.lemmas.List.Sums.{length-filter}
use Rattle.gh_base.specs.declared.ids.Serial.{Serial}
use Rattle.gh_base.specs.declared.kind.Kind.TheVariants as kind
use Rattle.gh_addrspace.specs.Rows.{overlaps as meets_mapping}
use Rattle.gh_addrspace.specs.Space.{Space as Mapped, span_map_refusal}
use Rattle.gh_addrspace.specs.declared.mapping.Mapping.{Mapping}
use Rattle.gh_extent.specs.Extents.{Extents, row_span, span_of}
use Rattle.gh_invariant.specs.Lives.{lives_as, mapping_stands, span_fits, spans_row}
use Rattle.gh_invariant.proofs.Counting.{found_all}
use Rattle.gh_invariant.specs.Premises.{MayMap}
use Rattle.gh_invariant.specs.Valid.{IsValidWithin}
use Rattle.gh_model.specs.Boot.{access_fits, is_row_of, overlaps}
use Rattle.gh_model.specs.Changes.{put_mapping}
use Rattle.gh_model.specs.Rows.{is_extent, is_object}
use Rattle.gh_model.specs.declared.change.Change.TheVariants.{PutMapping}
use Rattle.gh_model.specs.declared.memory.MapRow.{MapRow}
use Rattle.gh_model.specs.declared.memory.Span.{Span}
use Rattle.gh_model.specs.declared.rows.ExtentRow.{ExtentRow}
use Rattle.gh_model.specs.declared.rows.MappingRow.{MappingRow}
use Rattle.gh_model.specs.declared.state.State.{State}
use Rattle.gh_objects.specs.Counts.{with_reference}
use Rattle.gh_objects.specs.declared.header.Header.{Header}
use Rattle.gh_parts.specs.Bodies.{body_of, is_body_of, mapping_row, mappings_in}
use Rattle.gh_parts.specs.Index.{index_of}
use Rattle.gh_parts.specs.Making.{HasRoom}
use Rattle.gh_parts.specs.MappingChanges.{FitsBody, FitsIn, Maps, Rebodied, Remaps, map_row}
use Rattle.gh_parts.specs.Owing.{HasCount, recounted}
use Rattle.gh_parts.specs.Shares.{with_body}
use Rattle.gh_parts.specs.Stands.{Stands, StandsOwing, extent_rows, page_holders, span_row_of}
use Rattle.gh_parts.specs.declared.body.Body.{Body}
use Rattle.gh_parts.specs.declared.body.Body.TheVariants.{Bell, Extent, NewQueue, Nothing, Queue, Space}
use Rattle.gh_parts.specs.declared.journal.Memory.{Memory}
use Rattle.gh_parts.specs.declared.journal.Memory.TheVariants.{Bare, Held}
use Rattle.gh_parts.specs.declared.parts.Parts.{Parts}
use Rattle.gh_parts.specs.declared.shares.Place.{Place}
use Rattle.gh_parts.proofs.BodyLemmas.{body_elsewhere}
use Rattle.gh_parts.proofs.Living.{There, body_of_kind}
use Rattle.gh_parts.proofs.MappingLemmas.{KeepsRows, filter_here, filter_later, remapped_keeps}
use Rattle.gh_parts.proofs.StandsBodies.{bells_kept, kinds_kept, objects_kept, queues_kept, spans_kept}
use Rattle.gh_parts.proofs.StandsMapped.{ShowsIn, body_now, remapped_shows}
use Rattle.gh_parts.proofs.StandsMoved.{references_moved}
use Rattle.gh_parts.proofs.StandsOwed.{may_owe, owed_next}

-- a row at the end of those of its address space
filter_push : {R : Type 0} (p : R → Bool) (rows : List R) (row : R)
    → filter p (rows ++ row ∷ []) ≡ filter p rows ++ filter p (row ∷ [])
filter_push p [] row = refl
filter_push {R} p (first ∷ rows) row =
    elim (cases_Bool (p first)) [
      | inl passes ↦
          filter_here p first (rows ++ row ∷ []) passes
          ∙ ap (λ (rest : List R). first ∷ rest) (filter_push p rows row)
          ∙ ap (λ (rest : List R). rest ++ filter p (row ∷ [])) (sym (filter_here p first rows passes))
      | inr fails ↦
          filter_later p first (rows ++ row ∷ []) fails
          ∙ filter_push p rows row
          ∙ ap (λ (rest : List R). rest ++ filter p (row ∷ [])) (sym (filter_later p first rows fails))
    ]

-- a row is that of its mapping
row_of_mapping : (row : MappingRow) (mapping : Mapping) → mapping.row ≡ map_row row
    → mapping_row row.space.0 mapping ≡ row
row_of_mapping row mapping named =
    ap (λ (one : MapRow). mapping_row row.space.0 (record { row = one; page = mapping.page })) named

-- the rows of the address space with one more
mapped_rows : (spans : ℕ → Option Span) (holders : List Serial) (row : MappingRow) (old new : Body)
    → Remaps (Maps spans holders row) old new → is_body_of kind.Space old ≡ true
    → mappings_in row.space.0 new ≡ mappings_in row.space.0 old ++ row ∷ []
mapped_rows spans holders row (Space a) (Space b) so is =
    ap (map (mapping_row row.space.0)) so.rows
    ∙ map-append (mapping_row row.space.0) a.mappings (so.last ∷ [])
    ∙ ap (λ (one : MappingRow). map (mapping_row row.space.0) a.mappings ++ one ∷ []) (row_of_mapping row so.last so.named)
mapped_rows spans holders row (Space a) Nothing so is = absurd so
mapped_rows spans holders row (Space a) (Bell words) so is = absurd so
mapped_rows spans holders row (Space a) NewQueue so is = absurd so
mapped_rows spans holders row (Space a) (Queue queue) so is = absurd so
mapped_rows spans holders row (Space a) (Extent span) so is = absurd so
mapped_rows spans holders row Nothing new so is = absurd (let never : ⊥ = cc in never)
mapped_rows spans holders row (Bell words) new so is = absurd (let never : ⊥ = cc in never)
mapped_rows spans holders row NewQueue new so is = absurd (let never : ⊥ = cc in never)
mapped_rows spans holders row (Queue queue) new so is = absurd (let never : ⊥ = cc in never)
mapped_rows spans holders row (Extent span) new so is = absurd (let never : ⊥ = cc in never)

-- rows that meet none of a list meet none of a part of it
any_filtered : {R : Type 0} (p q : R → Bool) (rows : List R) → list_any p rows ≡ false
    → list_any p (filter q rows) ≡ false
any_filtered p q [] none = refl
any_filtered p q (row ∷ rows) none =
    let parts : (p row ≡ false) × (list_any p rows ≡ false) = or_parts _ _ none in
    elim (cases_Bool (q row)) [
      | inl passes ↦
          ap (list_any p) (filter_here q row rows passes)
          ∙ or_from (p row) (list_any p (filter q rows)) parts.0 (any_filtered p q rows parts.1)
      | inr fails ↦ ap (list_any p) (filter_later q row rows fails) ∙ any_filtered p q rows parts.1
    ]

-- rows that are made of others pass where those do
pub any_mapped : {R V : Type 0} (f : V → R) (p : R → Bool) (q : V → Bool) (vs : List V)
    → ((v : V) → p (f v) ≡ q v) → list_any q vs ≡ list_any p (map f vs)
any_mapped f p q [] same = refl
any_mapped f p q (v ∷ vs) same =
    ap (λ (b : Bool). b || list_any q vs) (sym (same v))
    ∙ ap (λ (b : Bool). p (f v) || b) (any_mapped f p q vs same)

meets_same : (row : MappingRow) (mapping : Mapping)
    → overlaps row.space.0 row.base row.count (mapping_row row.space.0 mapping) ≡ meets_mapping (map_row row) mapping
meets_same row mapping = rw (eq-eqb row.space.0 row.space.0 refl) refl

spanned_extent : (row : MappingRow) (found : Option ExtentRow) → spans_row row found ≡ true → There found
spanned_extent row None is = absurd (let never : ⊥ = cc in never)
spanned_extent row (Some extent) is = record { it = extent; is = refl }

-- what a mapping row needs, as facts
record RowParts (s : State) (row : MappingRow) : Type 0 where
  pub space : lives_as s.objects row.space.0 kind.Space ≡ true
  pub ends : nat_le (row.base + row.count) 4096 ≡ true
  pub spans : spans_row row (find (is_extent row.extent.0) s.extents) ≡ true

row_parts : (s : State) (row : MappingRow) → mapping_stands s.objects s.extents row ≡ true
    → RowParts s row
row_parts s row is =
    let last : _ × _ = and_parts _ (spans_row row (find (is_extent row.extent.0) s.extents)) is in
    let third : _ × _ = and_parts _ (nat_le (row.base + row.count) 4096) last.0 in
    let second : _ × _ = and_parts _ (nat_lt 0 row.count) third.0 in
    let first : _ × _ =
    and_parts (lives_as s.objects row.space.0 kind.Space) (lives_as s.objects row.extent.0 kind.Extent) second.0 in
    record { space = first.0; ends = third.1; spans = last.1 }

module _ (s : State) (valid : IsValidWithin s) (row : MappingRow) (may : MayMap s row) where
  parts_of : RowParts s row
  parts_of = row_parts s row may.stands

  pub extent_there : There (find (is_extent row.extent.0) s.extents)
  extent_there = spanned_extent row (find (is_extent row.extent.0) s.extents) parts_of.spans

  fits_parts : (nat_le (row.offset + row.count) extent_there.it.count ≡ true) × (access_fits row.access.0 extent_there.it.access.0 ≡ true)
  fits_parts =
      and_parts _ _ (subst (λ (found : Option ExtentRow). spans_row row found ≡ true) extent_there.is parts_of.spans)

  span_small : extent_there.it.first.0 + extent_there.it.count ≤ 4096
  span_small =
      let fits : span_fits (length s.holders) s.extents extent_there.it ≡ true =
      found_all (is_extent row.extent.0) (span_fits (length s.holders) s.extents) s.extents extent_there.it valid.pages.spans extent_there.is in
      let ends : extent_there.it.first.0 + extent_there.it.count ≤ length s.holders =
      leb-true _ _ (and_parts _ _ (and_parts _ _ fits).0).1 in
      omega (arith, ends, valid.pages.few)

  -- the row is mapped in an address space with these rows
  fits_in : (extents : Extents) (space : Mapped) → extents.rows ≡ s.extents
      → filter (is_row_of row.space.0) s.mappings ≡ map (mapping_row row.space.0) space.mappings
      → FitsIn extents row space
  fits_in extents space rows mappings =
      let span : span_of extents row.extent.0 ≡ Some (row_span extent_there.it) =
      ap (λ (all : List ExtentRow). option_map row_span (find (is_extent row.extent.0) all)) rows ∙ ap (option_map row_span) extent_there.is in
      let apart : list_any (meets_mapping (map_row row)) space.mappings ≡ false =
      any_mapped (mapping_row row.space.0) (overlaps row.space.0 row.base row.count) (meets_mapping (map_row row)) space.mappings (meets_same row)
      ∙ ap (list_any (overlaps row.space.0 row.base row.count)) (sym mappings)
      ∙ any_filtered (overlaps row.space.0 row.base row.count) (is_row_of row.space.0) s.mappings may.apart in
      let few : length space.mappings < 64 =
      omega (arith, may.few, length-filter (is_row_of row.space.0) s.mappings, ap length mappings, length-map space.mappings (mapping_row row.space.0)) in
      let whole : row.base + row.count ≤ 4096 = leb-true _ _ parts_of.ends in
      let part : row.offset + row.count ≤ extent_there.it.count = leb-true _ _ fits_parts.0 in
      record {
        span = subst (λ (found : Option Span). IsSomeAnd found (λ (one : Span). one.first.0 + one.count ≤ 4096)) (sym span) span_small;
        free =
            ap (span_map_refusal space (map_row row)) span
            ∙ rw (
              le-ltb 4096 (row.base + row.count) whole,
              le-ltb extent_there.it.count (row.offset + row.count) part,
              fits_parts.1,
              apart,
              lt-leb 64 (length space.mappings) few,
            ) refl;
      }

  pub fits_body_in : (memory : Memory) (body : Body) → extent_rows memory ≡ s.extents
      → filter (is_row_of row.space.0) s.mappings ≡ mappings_in row.space.0 body → FitsBody memory row body
  fits_body_in (Held extents) (Space space) rows mappings = fits_in extents space rows mappings
  fits_body_in (Bare pages) (Space space) rows mappings =
      let none : find (is_extent row.extent.0) s.extents ≡ None = ap (find (is_extent row.extent.0)) (sym rows) in
      let some : Some extent_there.it ≡ None = sym extent_there.is ∙ none in
      let never : ⊥ = cc in
      never
  fits_body_in (Held extents) Nothing rows mappings = tt
  fits_body_in (Held extents) (Bell words) rows mappings = tt
  fits_body_in (Held extents) NewQueue rows mappings = tt
  fits_body_in (Held extents) (Queue queue) rows mappings = tt
  fits_body_in (Held extents) (Extent span) rows mappings = tt
  fits_body_in (Bare pages) Nothing rows mappings = tt
  fits_body_in (Bare pages) (Bell words) rows mappings = tt
  fits_body_in (Bare pages) NewQueue rows mappings = tt
  fits_body_in (Bare pages) (Queue queue) rows mappings = tt
  fits_body_in (Bare pages) (Extent span) rows mappings = tt

  -- once it is mapped
  abbrev change : List ExtentRow → List Serial → Mapped → Mapped → Type 0
  change extents holders = Maps (span_row_of extents) holders row

  pub map_stands : (parts : Parts) → StandsOwing (row.space ∷ row.extent ∷ []) parts s → (body : Body)
      → Remaps (change s.extents s.holders) (body_of parts.table.headers parts.shares row.space.0) body
      → Stands (record parts { shares = with_body parts.shares (index_of parts.table.headers row.space.0) body }) (put_mapping row s)
  map_stands parts stand body so =
      let headers : List (Option Header) = parts.table.headers in
      let old : Body = body_of headers parts.shares row.space.0 in
      let shares : List (List Place) = with_body parts.shares (index_of headers row.space.0) body in
      let keeps : KeepsRows row.space.0 body old = remapped_keeps (change s.extents s.holders) row.space.0 old body so in
      let now : body_of headers shares row.space.0 ≡ body =
      body_now (row.space ∷ row.extent ∷ []) parts s stand row.space.0 body (change s.extents s.holders) so in
      let space : is_body_of kind.Space old ≡ true =
      body_of_kind kind.Space (find (is_object row.space.0) s.objects) old parts_of.space (stand.kinds row.space.0) in
      record {
        objects = objects_kept (row.space ∷ row.extent ∷ []) parts s stand row.space.0 body;
        kinds = kinds_kept (row.space ∷ row.extent ∷ []) parts s stand row.space.0 body keeps.kind;
        references = references_moved (s.entries + 1) s (PutMapping row) valid may headers parts.journal.counts refl stand.references;
        bells = bells_kept (row.space ∷ row.extent ∷ []) parts s stand row.space.0 body keeps.bells;
        queues = queues_kept (row.space ∷ row.extent ∷ []) parts s stand row.space.0 body keeps.queues;
        spans = spans_kept (row.space ∷ row.extent ∷ []) parts s stand row.space.0 body keeps.spans;
        spaces = record {
          mappings = λ x.
              elim (cases_eq x row.space.0) [
                | inl same ↦
                    subst (λ (n : ℕ). filter (is_row_of n) (s.mappings ++ row ∷ []) ≡ mappings_in n (body_of headers shares n)) (sym same)
                    (filter_push (is_row_of row.space.0) s.mappings row
                    ∙ ap (λ (rest : List MappingRow). filter (is_row_of row.space.0) s.mappings ++ rest) (filter_here (is_row_of row.space.0) row [] (eq-eqb row.space.0 row.space.0 refl))
                    ∙ ap (λ (rows : List MappingRow). rows ++ row ∷ []) (stand.spaces.mappings row.space.0)
                    ∙ sym (mapped_rows (span_row_of s.extents) s.holders row old body so space)
                    ∙ ap (mappings_in row.space.0) (sym now))
                | inr apart ↦
                    filter_push (is_row_of x) s.mappings row
                    ∙ ap (λ (rest : List MappingRow). filter (is_row_of x) s.mappings ++ rest) (filter_later (is_row_of x) row [] (ne_eqb row.space.0 x (λ same. apart (sym same))))
                    ∙ append-nil (filter (is_row_of x) s.mappings)
                    ∙ stand.spaces.mappings x
                    ∙ ap (mappings_in x) (sym (body_elsewhere headers parts.shares stand.objects.indexed stand.objects.whole row.space.0 body x apart))
              ];
          access = λ x.
              elim (cases_eq x row.space.0) [
                | inl same ↦
                    subst (λ (n : ℕ). ShowsIn (span_row_of s.extents) s.holders (body_of headers shares n)) (sym same)
                    (subst (ShowsIn (span_row_of s.extents) s.holders) (sym now)
                    (remapped_shows (change s.extents s.holders) (span_row_of s.extents) s.holders
                    (λ a b changed shown. changed.shows shown) old body so (stand.spaces.access row.space.0)))
                | inr apart ↦
                    subst (ShowsIn (span_row_of s.extents) s.holders)
                    (sym (body_elsewhere headers parts.shares stand.objects.indexed stand.objects.whole row.space.0 body x apart))
                    (stand.spaces.access x)
              ];
        };
        slots = stand.slots;
        units = stand.units;
        memory = stand.memory;
        blocks = stand.blocks;
        numbers = record {
          cpus = stand.numbers.cpus;
          links = stand.numbers.links;
          taken = stand.numbers.taken;
          entries = stand.numbers.entries;
          serials = stand.numbers.serials;
          handles = stand.numbers.handles;
          rings = stand.numbers.rings;
        };
      }

-- a row is mapped before its references are counted
mapped_has : (parts now : Parts) (shares : List (List Place)) (object : ℕ) (P : ℕ → Type 0)
    → now ≡ record parts { shares = shares } → HasCount parts object P → HasCount now object P
mapped_has parts now shares object P is has =
    subst (λ (p : Parts). HasCount p object P) (sym is)
    (record { indexed = has.indexed; bare = has.bare; count = has.count })

module _ (parts : Parts) (s : State) (stand : Stands parts s) (valid : IsValidWithin s) (room : HasRoom s)
    (row : MappingRow) (may : MayMap s row) (mapped : Parts)
    (so : Rebodied (Remaps (Maps (span_row_of (extent_rows parts.journal.memory)) (page_holders parts.journal.memory) row))
    row.space.0 parts mapped) where
  abbrev shares_now : List (List Place)
  shares_now = with_body parts.shares (index_of parts.table.headers row.space.0) so.body

  abbrev first : Parts
  first = recounted with_reference parts row.extent.0

  abbrev second : Parts
  second = recounted with_reference first row.space.0

  first_owes : StandsOwing (row.extent ∷ []) first s
  first_owes = owed_next parts first s [] row.extent stand refl

  second_owes : StandsOwing (row.space ∷ row.extent ∷ []) second s
  second_owes = owed_next first second s (row.extent ∷ []) row.space first_owes refl

  pub map_first : HasCount mapped row.extent.0 (λ (n : ℕ). n < 2 ^ 64 - 1)
  map_first =
      mapped_has parts mapped shares_now row.extent.0 (λ (n : ℕ). n < 2 ^ 64 - 1) so.parts
      (may_owe parts s [] row.extent.0 stand room (omega arith))

  pub map_second : (one : Parts) → one ≡ recounted with_reference mapped row.extent.0
      → HasCount one row.space.0 (λ (n : ℕ). n < 2 ^ 64 - 1)
  map_second one is =
      mapped_has first one shares_now row.space.0 (λ (n : ℕ). n < 2 ^ 64 - 1)
      (is ∙ ap (λ (p : Parts). recounted with_reference p row.extent.0) so.parts)
      (may_owe first s (row.extent ∷ []) row.space.0 first_owes room (omega arith))

  remapped_now : Remaps (Maps (span_row_of s.extents) s.holders row) (body_of parts.table.headers parts.shares row.space.0) so.body
  remapped_now =
      subst (λ (rows : List ExtentRow). Remaps (Maps (span_row_of rows) s.holders row) (body_of parts.table.headers parts.shares row.space.0) so.body)
      stand.memory.rows
      (subst (λ (holders : List Serial). Remaps (Maps (span_row_of (extent_rows parts.journal.memory)) holders row) (body_of parts.table.headers parts.shares row.space.0) so.body)
      stand.memory.pages so.so)

  pub map_counted : (one two : Parts) → one ≡ recounted with_reference mapped row.extent.0
      → two ≡ recounted with_reference one row.space.0 → Stands two (put_mapping row s)
  map_counted one two is put =
      subst (λ (p : Parts). Stands p (put_mapping row s))
      (sym (put ∙ ap (λ (p : Parts). recounted with_reference p row.space.0) (is ∙ ap (λ (p : Parts). recounted with_reference p row.extent.0) so.parts)))
      (map_stands s valid row may second second_owes so.body remapped_now)
