-- The parts stand for the rows once an extent, or the root extent, has its span.
use Rattle.std.proofs.Common.{◌≡◌, ◌<◌, ◌+◌, ◌-◌, ◌∙◌, ◌∷◌, ◌++◌, ◌==◌, ◌&&◌, ◌||◌, ℕ, Bool, true, false, List, [], Option, Some}
use Rattle.std.proofs.Common.{None, refl, sym, ap, subst, arith, inl, inr, find, length, replicate, if◌then◌else◌}
use Rattle.std.specs.Prelude.{◌^◌}
use Rattle.std.specs.Option.{option_map}
use Rattle.std.proofs.lemmas.Bool.{and_left, and_parts, both_ways, cases_eq, eq-eqb, eqb-true, ne_eqb, or_cases}
use Rattle.gh_base.specs.declared.ids.Serial.{Serial}
use Rattle.gh_base.specs.declared.kind.Kind.{Kind}
use Rattle.gh_base.specs.declared.kind.Kind.TheVariants as kind
use Rattle.gh_extent.specs.Extents.{root_alone, root_row, row_span}
use Rattle.gh_invariant.proofs.Counting.{find_push_found, find_push_new, find_push_other}
use Rattle.gh_invariant.specs.Lives.{is_part_of, is_root}
use Rattle.gh_invariant.specs.Premises.{MayAddRoot, MaySpan}
use Rattle.gh_invariant.specs.Valid.{IsValidWithin}
use Rattle.gh_model.specs.Boot.{is_of_kind}
use Rattle.gh_model.specs.Changes.{add_extent, add_root}
use Rattle.gh_model.specs.Rows.{is_extent, is_object}
use Rattle.gh_model.specs.declared.change.Change.TheVariants.{AddExtent, AddRoot}
use Rattle.gh_model.specs.declared.memory.Span.{Span}
use Rattle.gh_model.specs.declared.rows.ExtentRow.{ExtentRow}
use Rattle.gh_model.specs.declared.rows.ObjectRow.{ObjectRow}
use Rattle.gh_model.specs.declared.state.State.{State}
use Rattle.gh_objects.specs.Counts.{with_reference}
use Rattle.gh_objects.specs.declared.header.Header.{Header}
use Rattle.gh_parts.specs.Bodies.{bell_in, body_of, fits_body, is_body_of, mappings_in, queue_in, space_in, span_in}
use Rattle.gh_parts.specs.Index.{index_of}
use Rattle.gh_parts.specs.Making.{HasRoom}
use Rattle.gh_parts.specs.MemoryChanges.{spanned, with_extent, with_memory, with_span}
use Rattle.gh_parts.specs.Owing.{HasCount, recounted}
use Rattle.gh_parts.specs.Shares.{with_body}
use Rattle.gh_parts.specs.Stands.{ReferencesStand, SpacesStand, SpansStand, Stands, StandsOwing, extent_rows, page_holders}
use Rattle.gh_parts.specs.Stands.{span_row_of}
use Rattle.gh_parts.specs.declared.body.Body.{Body}
use Rattle.gh_parts.specs.declared.body.Body.TheVariants.{Extent}
use Rattle.gh_parts.specs.declared.journal.Memory.{Memory}
use Rattle.gh_parts.specs.declared.journal.Memory.TheVariants.{Bare, Held}
use Rattle.gh_parts.specs.declared.parts.Parts.{Parts}
use Rattle.gh_parts.specs.declared.shares.Place.{Place}
use Rattle.gh_parts.proofs.BodyLemmas.{body_changed, body_elsewhere}
use Rattle.gh_parts.proofs.Living.{body_of_kind}
use Rattle.gh_parts.proofs.ShowsLemmas.{shows_bare, shows_extends}
use Rattle.gh_parts.proofs.StandsBodies.{bells_kept, kinds_kept, objects_kept, queues_kept, spaces_kept}
use Rattle.gh_parts.proofs.StandsMoved.{references_moved}
use Rattle.gh_parts.proofs.StandsOwed.{may_owe}

-- a span leaves what other kinds show
pub record KeepsOthers (serial : ℕ) (new old : Body) : Type 0 where
  pub kind : (found : Option ObjectRow) → fits_body new found ≡ fits_body old found
  pub bells : bell_in serial new ≡ bell_in serial old
  pub queues : queue_in serial new ≡ queue_in serial old
  pub mappings : mappings_in serial new ≡ mappings_in serial old
  pub spaces : space_in new ≡ space_in old

kind_spanned : (k : Kind) (old new : Option Span) → is_body_of k (Extent new) ≡ is_body_of k (Extent old)
kind_spanned kind.Partition old new = refl
kind_spanned kind.Cspace old new = refl
kind_spanned kind.Space old new = refl
kind_spanned kind.Extent old new = refl
kind_spanned kind.Bell old new = refl
kind_spanned kind.Queue old new = refl

found_spanned : (span : Span) (body : Body) (found : Option ObjectRow)
    → fits_body (spanned span body) found ≡ fits_body body found
found_spanned span body None = refl
found_spanned span (Extent old) (Some row) = kind_spanned row.kind old (Some span)
found_spanned span _ (Some row) = refl

spanned_keeps : (span : Span) (serial : ℕ) (body : Body) → KeepsOthers serial (spanned span body) body
spanned_keeps span serial (Extent old) =
    record { kind = found_spanned span (Extent old); bells = refl; queues = refl; mappings = refl; spaces = refl }
spanned_keeps span serial _ =
    record { kind = λ found. refl; bells = refl; queues = refl; mappings = refl; spaces = refl }

-- an extent's body gets the span
extent_spanned : (span : Span) (serial : ℕ) (body : Body) → is_body_of kind.Extent body ≡ true
    → span_in serial (spanned span body) ≡ Some span
extent_spanned span serial (Extent old) is = refl
extent_spanned span serial _ is = absurd (let never : ⊥ = cc in never)

module _ (owed : List Serial) (parts : Parts) (s : State) (stand : StandsOwing owed parts s)
    (row : ExtentRow) (extent : is_of_kind kind.Extent (find (is_object row.serial.0) s.objects) ≡ true)
    (unused : find (is_extent row.serial.0) s.extents ≡ None) where
  abbrev headers : List (Option Header)
  headers = parts.table.headers

  abbrev old : Body
  old = body_of headers parts.shares row.serial.0

  abbrev new : Body
  new = spanned (row_span row) old

  abbrev pub shares : List (List Place)
  shares = with_body parts.shares (index_of headers row.serial.0) new

  abbrev extents : List ExtentRow
  extents = s.extents ++ row ∷ []

  pub keeps : KeepsOthers row.serial.0 new old
  keeps = spanned_keeps (row_span row) row.serial.0 old

  span_here : span_row_of extents row.serial.0 ≡ span_in row.serial.0 (body_of headers shares row.serial.0)
  span_here =
      ap (option_map row_span) (find_push_new (is_extent row.serial.0) s.extents row unused (eq-eqb row.serial.0 row.serial.0 refl))
      ∙ sym (extent_spanned (row_span row) row.serial.0 old (body_of_kind kind.Extent (find (is_object row.serial.0) s.objects) old extent (stand.kinds row.serial.0)))
      ∙ ap (span_in row.serial.0)
      (sym (body_changed headers parts.shares stand.objects.indexed stand.objects.whole row.serial.0 new (spanned (row_span row)) refl refl))

  pub spans_now : SpansStand headers shares extents
  spans_now x =
      elim (cases_eq x row.serial.0) [
        | inl same ↦ subst (λ (n : ℕ). span_row_of extents n ≡ span_in n (body_of headers shares n)) (sym same) span_here
        | inr apart ↦
            ap (option_map row_span)
            (find_push_other (is_extent x) s.extents row (ne_eqb row.serial.0 x (λ same. apart (sym same))))
            ∙ stand.spans x
            ∙ ap (span_in x) (sym (body_elsewhere headers parts.shares stand.objects.indexed stand.objects.whole row.serial.0 new x apart))
      ]

  span_stays : (x : ℕ) (span : Span) → span_row_of s.extents x ≡ Some span → span_row_of extents x ≡ Some span
  span_stays x span is = found_by (find (is_extent x) s.extents) refl is
    where
      found_by : (found : Option ExtentRow) → find (is_extent x) s.extents ≡ found
          → option_map row_span found ≡ Some span → span_row_of extents x ≡ Some span
      found_by None there is = absurd (let never : ⊥ = cc in never)
      found_by (Some one) there is =
          ap (option_map row_span) (find_push_found (is_extent x) s.extents row one there) ∙ is

  spaces_beside : SpacesStand headers shares s.extents s.holders s.mappings
  spaces_beside = spaces_kept owed parts s stand row.serial.0 new keeps.mappings keeps.spaces

  pub spaces_extended : SpacesStand headers shares extents s.holders s.mappings
  spaces_extended = record {
    mappings = spaces_beside.mappings;
    access = λ x space is.
        shows_extends (span_row_of s.extents) (span_row_of extents) s.holders space span_stays
        (spaces_beside.access x space is);
  }

  -- where there was no extent any holders are shown
  pub spaces_rooted : s.extents ≡ [] → (holders : List Serial)
      → SpacesStand headers shares extents holders s.mappings
  spaces_rooted none holders = record {
    mappings = spaces_beside.mappings;
    access = λ x space is.
        shows_bare (span_row_of s.extents) (span_row_of extents) s.holders holders space
        (λ n. ap (λ (rows : List ExtentRow). span_row_of rows n) none)
        (spaces_beside.access x space is);
  }

-- the memory with a row more
with_row_rows : (row : ExtentRow) (memory : Memory) (extents : List ExtentRow) (some : 0 < length extents)
    → extent_rows memory ≡ extents → extent_rows (with_extent row memory) ≡ extents ++ row ∷ []
with_row_rows row (Bare pages) extents some is =
    let none : length extents ≡ 0 = ap length (sym is) in absurd (omega arith)
with_row_rows row (Held held) extents some is = ap (λ (rows : List ExtentRow). rows ++ row ∷ []) is

with_row_pages : (row : ExtentRow) (memory : Memory)
    → page_holders (with_extent row memory) ≡ page_holders memory
with_row_pages row (Bare pages) = refl
with_row_pages row (Held held) = refl

module _ (parts : Parts) (s : State) (valid : IsValidWithin s) (row : ExtentRow) (may : MaySpan s row)
    (stand : StandsOwing (row.parent ∷ []) parts s) where
  not_root : is_root (length s.holders) row ≡ false
  not_root =
      and_left _ _ (and_left _ _ (and_left _ _ (ne_eqb row.parent.0 0 (λ none. omega (arith, may.parent)))))

  some_rows : (extents : List ExtentRow)
      → (is_root (length s.holders) row || is_part_of row (find (is_extent row.parent.0) extents)) ≡ true
      → 0 < length extents
  some_rows [] is =
      elim (or_cases _ _ is) [
        | inl root ↦ absurd (both_ways (is_root (length s.holders) row) not_root root)
        | inr part ↦ absurd (let never : ⊥ = cc in never)
      ]
  some_rows (one ∷ extents) is = omega arith

  parent_some : 0 < length s.extents
  parent_some = some_rows s.extents (and_parts _ _ may.fits).1

  pub extent_stands : Stands (with_span row (with_memory (with_extent row parts.journal.memory) parts)) (add_extent row s)
  extent_stands = record {
    objects = objects_kept (row.parent ∷ []) parts s stand row.serial.0 _;
    kinds = kinds_kept (row.parent ∷ []) parts s stand row.serial.0 _ (keeps (row.parent ∷ []) parts s stand row may.kind may.none).kind;
    references =
        references_moved (s.entries + 1) s (AddExtent row) valid may parts.table.headers parts.journal.counts refl
        (subst (λ (b : Bool). ReferencesStand parts.table.headers parts.journal.counts (if b then row.serial ∷ [] else row.parent ∷ []) s)
        (sym (ne_eqb row.parent.0 0 (λ none. omega (arith, may.parent)))) stand.references);
    bells = bells_kept (row.parent ∷ []) parts s stand row.serial.0 _ (keeps (row.parent ∷ []) parts s stand row may.kind may.none).bells;
    queues = queues_kept (row.parent ∷ []) parts s stand row.serial.0 _ (keeps (row.parent ∷ []) parts s stand row may.kind may.none).queues;
    spans = spans_now (row.parent ∷ []) parts s stand row may.kind may.none;
    spaces = spaces_extended (row.parent ∷ []) parts s stand row may.kind may.none;
    slots = stand.slots;
    units = stand.units;
    memory = record {
      rows = with_row_rows row parts.journal.memory s.extents parent_some stand.memory.rows;
      pages = with_row_pages row parts.journal.memory ∙ stand.memory.pages;
    };
    blocks = stand.blocks;
    numbers = record {
      cpus = stand.numbers.cpus;
      links = stand.numbers.links;
      taken = stand.numbers.taken;
      entries = stand.numbers.entries;
      serials = stand.numbers.serials;
      handles = stand.numbers.handles;
      rings = stand.numbers.rings;
    };
  }

module _ (parts : Parts) (s : State) (valid : IsValidWithin s) (row : ExtentRow) (may : MayAddRoot s row)
    (plain : row.parcel ≡ false) (stand : StandsOwing (row.serial ∷ []) parts s) where
  unheld : find (is_extent row.serial.0) s.extents ≡ None
  unheld = ap (find (is_extent row.serial.0)) may.first

  root_parts : (((row.parent.0 == 0) && (row.first.0 == 0)) && (row.count == length s.holders)) ≡ true
  root_parts = (and_parts _ _ may.whole).0

  root_is : root_row row.count row.serial ≡ row
  root_is =
      let access : row.access.0 ≡ 7 = eqb-true row.access.0 7 (and_parts _ _ may.whole).1 in
      let ends : (((row.parent.0 == 0) && (row.first.0 == 0)) ≡ true) × ((row.count == length s.holders) ≡ true) =
      and_parts _ _ root_parts in
      let both : ((row.parent.0 == 0) ≡ true) × ((row.first.0 == 0) ≡ true) = and_parts _ _ ends.0 in
      let parent : row.parent.0 ≡ 0 = eqb-true row.parent.0 0 both.0 in
      let first : row.first.0 ≡ 0 = eqb-true row.first.0 0 both.1 in
      sym (ap (λ (n : ℕ). record row { parent = record { 0 = n } }) parent
      ∙ ap (λ (n : ℕ). record (root_row row.count row.serial) { first = record { 0 = n }; access = row.access; parcel = row.parcel }) first
      ∙ ap (λ (n : ℕ). record (root_row row.count row.serial) { access = record { 0 = n }; parcel = row.parcel }) access
      ∙ ap (λ (b : Bool). record (root_row row.count row.serial) { parcel = b }) plain)

  pages_are : row.count ≡ length s.holders
  pages_are = eqb-true row.count (length s.holders) (and_parts _ _ root_parts).1

  pub root_stands : Stands (with_span row (with_memory (Held (root_alone row.count row.serial)) parts)) (add_root row s)
  root_stands = record {
    objects = objects_kept (row.serial ∷ []) parts s stand row.serial.0 _;
    kinds = kinds_kept (row.serial ∷ []) parts s stand row.serial.0 _ (keeps (row.serial ∷ []) parts s stand row may.kind unheld).kind;
    references =
        references_moved (s.entries + 1) s (AddRoot row) valid may parts.table.headers parts.journal.counts refl
        (subst (λ (b : Bool). ReferencesStand parts.table.headers parts.journal.counts (if b then row.serial ∷ [] else row.parent ∷ []) s)
        (sym (and_parts _ _ (and_parts _ _ root_parts).0).0) stand.references);
    bells = bells_kept (row.serial ∷ []) parts s stand row.serial.0 _ (keeps (row.serial ∷ []) parts s stand row may.kind unheld).bells;
    queues = queues_kept (row.serial ∷ []) parts s stand row.serial.0 _ (keeps (row.serial ∷ []) parts s stand row may.kind unheld).queues;
    spans = spans_now (row.serial ∷ []) parts s stand row may.kind unheld;
    spaces = spaces_rooted (row.serial ∷ []) parts s stand row may.kind unheld may.first (replicate (length s.holders) row.serial);
    slots = stand.slots;
    units = stand.units;
    memory = record {
      rows = ap (λ (one : ExtentRow). one ∷ []) root_is ∙ ap (λ (rows : List ExtentRow). rows ++ row ∷ []) (sym may.first);
      pages = ap (λ (n : ℕ). replicate n row.serial) pages_are;
    };
    blocks = stand.blocks;
    numbers = record {
      cpus = stand.numbers.cpus;
      links = stand.numbers.links;
      taken = stand.numbers.taken;
      entries = stand.numbers.entries;
      serials = stand.numbers.serials;
      handles = stand.numbers.handles;
      rings = stand.numbers.rings;
    };
  }

-- the references of a span, which is put before they are counted
spanned_has : (row : ExtentRow) (memory : Memory) (parts now : Parts) (object : ℕ) (P : ℕ → Type 0)
    → now ≡ with_span row (with_memory memory parts) → HasCount parts object P → HasCount now object P
spanned_has row memory parts now object P is has =
    subst (λ (p : Parts). HasCount p object P) (sym is)
    (record { indexed = has.indexed; bare = has.bare; count = has.count })

pub span_owes : (parts pushed copied : Parts) (s : State) (row : ExtentRow) (memory : Memory) (object : ℕ)
    → Stands parts s → HasRoom s → pushed ≡ with_memory memory parts → copied ≡ with_span row pushed
    → HasCount copied object (λ (n : ℕ). n < 2 ^ 64 - 1)
span_owes parts pushed copied s row memory object stand room was is =
    spanned_has row memory parts copied object (λ (n : ℕ). n < 2 ^ 64 - 1) (is ∙ ap (with_span row) was)
    (may_owe parts s [] object stand room (omega arith))

-- the references are counted behind the span as they would be before it
pub span_counted : (parts pushed copied now : Parts) (row : ExtentRow) (memory : Memory) (object : ℕ)
    → pushed ≡ with_memory memory parts → copied ≡ with_span row pushed
    → now ≡ recounted with_reference copied object
    → with_span row (with_memory memory (recounted with_reference parts object)) ≡ now
span_counted parts pushed copied now row memory object was is put =
    sym (put ∙ ap (λ (p : Parts). recounted with_reference p object) (is ∙ ap (with_span row) was))
