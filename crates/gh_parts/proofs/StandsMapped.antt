-- The parts stand for the rows once the body of an address space has other rows.
use Rattle.std.proofs.Common.{◌≡◌, ◌∙◌, ◌+◌, ◌∷◌, ℕ, Bool, true, List, [], Option, Some, refl, sym, ap, subst, inl, inr, filter}
use Rattle.std.proofs.Common.{map}
use Rattle.std.proofs.lemmas.Bool.{and_parts, cases_eq, cases_lt, eqb-true, ne_eqb}
use Rattle.gh_base.specs.declared.ids.Serial.{Serial}
use Rattle.gh_base.specs.declared.limits.TheConstants.{OBJECT_INDICES}
use Rattle.gh_addrspace.specs.Rows.{is_chosen}
use Rattle.gh_addrspace.specs.Space.{Shows, Space as Mapped}
use Rattle.gh_invariant.specs.Premises.{MayUnmap}
use Rattle.gh_invariant.specs.Valid.{IsValidWithin}
use Rattle.gh_model.specs.Boot.{is_row_of}
use Rattle.gh_model.specs.Changes.{drop_mapping, is_mapping, without}
use Rattle.gh_model.specs.declared.change.Change.TheVariants.{DropMapping}
use Rattle.gh_model.specs.declared.memory.Span.{Span}
use Rattle.gh_model.specs.declared.rows.MappingRow.{MappingRow}
use Rattle.gh_model.specs.declared.state.State.{State}
use Rattle.gh_objects.specs.declared.header.Header.{Header}
use Rattle.gh_parts.specs.Bodies.{body_of, mapping_row, mappings_in, space_in}
use Rattle.gh_parts.specs.Index.{index_of}
use Rattle.gh_parts.specs.MappingChanges.{Rebodied, Remaps, Unmaps, pages_of}
use Rattle.gh_parts.specs.Shares.{body_at, with_body}
use Rattle.gh_parts.specs.Stands.{Stands, StandsOwing, span_row_of}
use Rattle.gh_parts.specs.declared.body.Body.{Body}
use Rattle.gh_parts.specs.declared.body.Body.TheVariants.{Bell, Extent, NewQueue, Nothing, Queue, Space}
use Rattle.gh_parts.specs.declared.parts.Parts.{Parts}
use Rattle.gh_parts.specs.declared.shares.Place.{Place}
use Rattle.gh_parts.proofs.BodyLemmas.{body_elsewhere, body_none}
use Rattle.gh_parts.proofs.MappingLemmas.{KeepsRows, chosen_same, filter_apart, filter_both, remapped_keeps, without_map}
use Rattle.gh_parts.proofs.SharesLemmas.{body_here, body_past}
use Rattle.gh_parts.proofs.Options.{some_same}
use Rattle.gh_parts.proofs.StandsBodies.{bells_kept, kinds_kept, objects_kept, queues_kept, spans_kept}
use Rattle.gh_parts.proofs.StandsMoved.{references_moved}

-- what an address space shows, if the body is one
abbrev pub ShowsIn : (ℕ → Option Span) → List Serial → Body → Type 0
ShowsIn spans holders body = (space : Mapped) → space_in body ≡ Some space → Shows spans holders space

-- a changed address space still shows who holds the pages
pub remapped_shows : (change : Mapped → Mapped → Type 0) (spans : ℕ → Option Span) (holders : List Serial)
    → ((a b : Mapped) → change a b → Shows spans holders a → Shows spans holders b) → (old new : Body)
    → Remaps change old new → ShowsIn spans holders old → ShowsIn spans holders new
remapped_shows change spans holders keeps (Space a) (Space b) so shown space is =
    subst (Shows spans holders) (some_same b space is) (keeps a b so (shown a refl))
remapped_shows change spans holders keeps (Space a) Nothing so shown space is = absurd so
remapped_shows change spans holders keeps (Space a) (Bell words) so shown space is = absurd so
remapped_shows change spans holders keeps (Space a) NewQueue so shown space is = absurd so
remapped_shows change spans holders keeps (Space a) (Queue queue) so shown space is = absurd so
remapped_shows change spans holders keeps (Space a) (Extent span) so shown space is = absurd so
remapped_shows change spans holders keeps Nothing new so shown space is = subst (ShowsIn spans holders) (sym so) shown space is
remapped_shows change spans holders keeps (Bell words) new so shown space is = subst (ShowsIn spans holders) (sym so) shown space is
remapped_shows change spans holders keeps NewQueue new so shown space is = subst (ShowsIn spans holders) (sym so) shown space is
remapped_shows change spans holders keeps (Queue queue) new so shown space is = subst (ShowsIn spans holders) (sym so) shown space is
remapped_shows change spans holders keeps (Extent span) new so shown space is = subst (ShowsIn spans holders) (sym so) shown space is

-- and its rows are those without the one that was asked for
unmapped_rows : (row : MappingRow) (old new : Body) → Remaps (Unmaps row) old new
    → mappings_in row.space.0 new
    ≡ without (is_mapping row.space.0 row.extent.0 row.base row.offset row.count) (mappings_in row.space.0 old)
unmapped_rows row (Space a) (Space b) so =
    ap (map (mapping_row row.space.0)) so.rows
    ∙ sym (without_map (mapping_row row.space.0) (is_mapping row.space.0 row.extent.0 row.base row.offset row.count)
    (is_chosen (pages_of row)) a.mappings (chosen_same row))
unmapped_rows row (Space a) Nothing so = absurd so
unmapped_rows row (Space a) (Bell words) so = absurd so
unmapped_rows row (Space a) NewQueue so = absurd so
unmapped_rows row (Space a) (Queue queue) so = absurd so
unmapped_rows row (Space a) (Extent span) so = absurd so
unmapped_rows row Nothing new so = ap (mappings_in row.space.0) so
unmapped_rows row (Bell words) new so = ap (mappings_in row.space.0) so
unmapped_rows row NewQueue new so = ap (mappings_in row.space.0) so
unmapped_rows row (Queue queue) new so = ap (mappings_in row.space.0) so
unmapped_rows row (Extent span) new so = ap (mappings_in row.space.0) so

-- what is so of the new body is so of the object's body now, whether there is the object or not
pub body_now : (owed : List Serial) (parts : Parts) (s : State) → StandsOwing owed parts s → (serial : ℕ)
    → (body : Body) (change : Mapped → Mapped → Type 0)
    → Remaps change (body_of parts.table.headers parts.shares serial) body
    → body_of parts.table.headers (with_body parts.shares (index_of parts.table.headers serial) body) serial ≡ body
body_now owed parts s stand serial body change so =
    elim (cases_lt (index_of parts.table.headers serial) OBJECT_INDICES) [
      | inl below ↦ body_here parts.shares (index_of parts.table.headers serial) body stand.objects.whole below
      | inr past ↦
          let none : body_of parts.table.headers parts.shares serial ≡ Nothing =
          body_none parts.shares (index_of parts.table.headers serial) stand.objects.whole past in
          ap (λ (shares : List (List Place)). body_at shares (index_of parts.table.headers serial))
          (body_past parts.shares (index_of parts.table.headers serial) body stand.objects.whole past)
          ∙ none
          ∙ sym (subst (λ (old : Body). Remaps change old body) none so)
    ]

module _ (parts : Parts) (s : State) (stand : Stands parts s) (valid : IsValidWithin s) (row : MappingRow)
    (may : MayUnmap s row) (body : Body)
    (so : Remaps (Unmaps row) (body_of parts.table.headers parts.shares row.space.0) body) where
  abbrev headers : List (Option Header)
  headers = parts.table.headers

  abbrev shares : List (List Place)
  shares = with_body parts.shares (index_of headers row.space.0) body

  abbrev old : Body
  old = body_of headers parts.shares row.space.0

  abbrev gone : MappingRow → Bool
  gone = is_mapping row.space.0 row.extent.0 row.base row.offset row.count

  keeps : KeepsRows row.space.0 body old
  keeps = remapped_keeps (Unmaps row) row.space.0 old body so

  now : body_of headers shares row.space.0 ≡ body
  now = body_now [] parts s stand row.space.0 body (Unmaps row) so

  of_space : (one : MappingRow) → gone one ≡ true → one.space.0 ≡ row.space.0
  of_space one is =
      eqb-true one.space.0 row.space.0
      ((and_parts _ _ ((and_parts _ _ ((and_parts _ _ ((and_parts _ _ ((and_parts _ _ is).0)).0)).0)).0)).1)

  mappings_now : (x : ℕ) → filter (is_row_of x) (without gone s.mappings) ≡ mappings_in x (body_of headers shares x)
  mappings_now x =
      elim (cases_eq x row.space.0) [
        | inl same ↦
            subst (λ (n : ℕ). filter (is_row_of n) (without gone s.mappings) ≡ mappings_in n (body_of headers shares n)) (sym same)
            (filter_both (is_row_of row.space.0) gone s.mappings
            ∙ ap (without gone) (stand.spaces.mappings row.space.0)
            ∙ sym (unmapped_rows row old body so)
            ∙ ap (mappings_in row.space.0) (sym now))
        | inr apart ↦
            filter_apart (is_row_of x) gone s.mappings
            (λ one is. ne_eqb one.space.0 x (λ same. apart (sym same ∙ of_space one is)))
            ∙ stand.spaces.mappings x
            ∙ ap (mappings_in x) (sym (body_elsewhere headers parts.shares stand.objects.indexed stand.objects.whole row.space.0 body x apart))
      ]

  access_now : (x : ℕ) → ShowsIn (span_row_of s.extents) s.holders (body_of headers shares x)
  access_now x =
      elim (cases_eq x row.space.0) [
        | inl same ↦
            subst (λ (n : ℕ). ShowsIn (span_row_of s.extents) s.holders (body_of headers shares n)) (sym same)
            (subst (ShowsIn (span_row_of s.extents) s.holders) (sym now)
            (remapped_shows (Unmaps row) (span_row_of s.extents) s.holders
            (λ a b changed shown. changed.shows (span_row_of s.extents) s.holders shown) old body so
            (stand.spaces.access row.space.0)))
        | inr apart ↦
            subst (ShowsIn (span_row_of s.extents) s.holders)
            (sym (body_elsewhere headers parts.shares stand.objects.indexed stand.objects.whole row.space.0 body x apart))
            (stand.spaces.access x)
      ]

  pub unmap_stands : StandsOwing (row.space ∷ row.extent ∷ []) (record parts { shares = shares }) (drop_mapping row s)
  unmap_stands = record {
    objects = objects_kept [] parts s stand row.space.0 body;
    kinds = kinds_kept [] parts s stand row.space.0 body keeps.kind;
    references = references_moved (s.entries + 1) s (DropMapping row) valid may headers parts.journal.counts refl stand.references;
    bells = bells_kept [] parts s stand row.space.0 body keeps.bells;
    queues = queues_kept [] parts s stand row.space.0 body keeps.queues;
    spans = spans_kept [] parts s stand row.space.0 body keeps.spans;
    spaces = record { mappings = mappings_now; access = access_now };
    slots = stand.slots;
    units = stand.units;
    memory = stand.memory;
    blocks = stand.blocks;
    numbers = record {
      cpus = stand.numbers.cpus;
      links = stand.numbers.links;
      taken = stand.numbers.taken;
      entries = stand.numbers.entries;
      serials = stand.numbers.serials;
      handles = stand.numbers.handles;
      rings = stand.numbers.rings;
    };
  }

-- the references of the row are owed
pub unmap_owes : (parts now : Parts) (s : State) (row : MappingRow) → Stands parts s → IsValidWithin s
    → MayUnmap s row → Rebodied (Remaps (Unmaps row)) row.space.0 parts now
    → StandsOwing (row.space ∷ row.extent ∷ []) now (drop_mapping row s)
unmap_owes parts now s row stand valid may changed =
    subst (λ (one : Parts). StandsOwing (row.space ∷ row.extent ∷ []) one (drop_mapping row s)) (sym changed.parts)
    (unmap_stands parts s stand valid row may changed.body changed.so)
