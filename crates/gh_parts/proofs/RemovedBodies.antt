-- Bodies stand once an object is removed, whose pages its parent has.
use Rattle.std.proofs.Common.{◌≡◌, ◌≢◌, ◌∙◌, ◌==◌, not, ℕ, Bool, true, false, List, Option, Some, None, refl, sym, ap, subst, arith, inl, inr}
use Rattle.std.proofs.Common.{find, filter, map, set}
use Rattle.std.specs.Prelude.{count_by}
use Rattle.std.specs.Option.{option_map}
use Rattle.std.proofs.lemmas.Bool.{both_ways, cases_eq, eq-eqb, ne_eqb, or_left, or_right}
use Rattle.std.proofs.lemmas.List.{length-set}
use Rattle.std.proofs.lemmas.List.Elements.{All-weaker}
use Rattle.gh_addrspace.specs.Space.{Shows, Space as Mapped}
use Rattle.gh_addrspace.specs.declared.mapping.Mapping.{Mapping}
use Rattle.gh_base.specs.declared.ids.Serial.{Serial}
use Rattle.gh_extent.specs.Extents.{row_span}
use Rattle.gh_invariant.proofs.Counting.{all_by, none_fail}
use Rattle.gh_invariant.proofs.RowsLeft.{find_gone, find_left}
use Rattle.gh_invariant.proofs.RowsTested.{other_number}
use Rattle.gh_model.specs.Boot.{is_row_of}
use Rattle.gh_model.specs.Changes.{reclaim_object}
use Rattle.gh_model.specs.References.{is_mapping_of}
use Rattle.gh_model.specs.Rows.{is_bell, is_extent, is_object, is_queue}
use Rattle.gh_model.specs.declared.rows.MappingRow.{MappingRow}
use Rattle.gh_model.specs.declared.state.State.{State}
use Rattle.gh_objects.specs.declared.header.Header.{Header}
use Rattle.gh_parts.specs.Bodies.{bell_in, body_of, fits_body, mapping_row, mappings_in, queue_in, space_in, span_in}
use Rattle.gh_parts.specs.Follows.{SharesFollow, ShowsOn}
use Rattle.gh_parts.specs.Index.{index_of}
use Rattle.gh_parts.specs.MappingChanges.{Remaps}
use Rattle.gh_parts.specs.Shares.{no_place, with_place}
use Rattle.gh_parts.specs.Stands.{BellsStand, KindsStand, QueuesStand, SpacesStand, SpansStand, span_row_of}
use Rattle.gh_parts.specs.declared.body.Body.{Body}
use Rattle.gh_parts.specs.declared.body.Body.TheVariants.{Nothing, Space}
use Rattle.gh_parts.specs.declared.parts.Parts.{Parts}
use Rattle.gh_parts.specs.declared.shares.Place.{Place}
use Rattle.gh_parts.proofs.BodyLemmas.{body_none}
use Rattle.gh_parts.proofs.FollowLemmas.{SpaceBefore, mappings_apart, mappings_follow, none_chosen, space_before}
use Rattle.gh_parts.proofs.FoundRows.{not_true}
use Rattle.gh_parts.proofs.Leaving.{Leaves, found_gone, found_left, leaves_within, mappings_stay}
use Rattle.gh_parts.proofs.MappingLemmas.{KeepsRows, remapped_keeps}
use Rattle.gh_parts.proofs.Options.{some_same}
use Rattle.gh_parts.proofs.PlaceLemmas.{places_whole}
use Rattle.gh_parts.proofs.RemovedIndices.{index_gone}
use Rattle.gh_parts.proofs.RemovedObjects.{place_left}
use Rattle.gh_parts.proofs.ShowsLemmas.{KeepsSpan, shows_kept}

module _ (parts : Parts) (s : State) (object : Serial) (leaves : Leaves parts s object.0)
    (holders : List Serial) (shares : List (List Place)) (follow : SharesFollow s.holders holders parts.shares shares)
  where
    abbrev headers : List (Option Header)
    headers = parts.table.headers

    abbrev at : ℕ
    at = index_of headers object.0

    abbrev now : List (Option Header)
    now = set headers at None

    abbrev cleared : List (List Place)
    cleared = with_place shares at no_place

    abbrev after : State
    after = reclaim_object object s

    -- the object has no body any more
    nothing : body_of now cleared object.0 ≡ Nothing
    nothing =
        body_none cleared (index_of now object.0) (places_whole shares at no_place follow.whole)
        (omega (
          arith,
          index_gone headers leaves.stand.objects.indexed object.0 (leaves_within parts s object.0 leaves),
          length-set headers at None,
          leaves.stand.objects.indexed.indices,
        ))

    -- and every other's has followed
    followed : (x : ℕ) → x ≢ object.0
        → Remaps (ShowsOn s.holders holders) (body_of headers parts.shares x) (body_of now cleared x)
    followed x apart =
        subst (λ (p : Place). Remaps (ShowsOn s.holders holders) (body_of headers parts.shares x) p.body)
        (sym (place_left parts s object leaves holders shares follow x apart)) (follow.bodies (index_of headers x))

    keeps : (x : ℕ) → x ≢ object.0 → KeepsRows x (body_of now cleared x) (body_of headers parts.shares x)
    keeps x apart = remapped_keeps (ShowsOn s.holders holders) x _ _ (followed x apart)

    seen_now : {V : Type 0} (see : ℕ → Body → V) (left : ℕ → V) → left object.0 ≡ see object.0 Nothing
        → ((x : ℕ) → x ≢ object.0 → left x ≡ see x (body_of now cleared x)) → (x : ℕ)
        → left x ≡ see x (body_of now cleared x)
    seen_now see left here there x =
        elim (cases_eq x object.0) [
          | inl same ↦
              subst (λ (n : ℕ). left n ≡ see n (body_of now cleared n)) (sym same)
              (here ∙ ap (see object.0) (sym nothing))
          | inr apart ↦ there x apart
        ]

    pub kinds_left : KindsStand now cleared after.objects
    kinds_left x =
        sym (seen_now (λ n b. fits_body b (find (is_object n) after.objects)) (λ n. true)
        (sym (ap (fits_body Nothing) (found_gone parts s object.0 leaves)))
        (λ n apart.
        sym (ap (fits_body (body_of now cleared n)) (found_left parts s object.0 leaves n apart)
        ∙ (keeps n apart).kind (find (is_object n) s.objects) ∙ leaves.stand.kinds n))
        x)

    pub bells_left : BellsStand now cleared after.bells
    bells_left x =
        seen_now bell_in (λ n. find (is_bell n) after.bells)
        (find_gone (is_bell object.0) (is_bell object.0) s.bells (λ row fails. fails))
        (λ n apart.
        find_left (is_bell n) (is_bell object.0) s.bells (λ row is. other_number row.serial.0 n object.0 (ne_eqb n object.0 apart) is)
        ∙ leaves.stand.bells n ∙ sym (keeps n apart).bells)
        x

    pub queues_left : QueuesStand now cleared after.queues
    queues_left x =
        seen_now queue_in (λ n. find (is_queue n) after.queues)
        (find_gone (is_queue object.0) (is_queue object.0) s.queues (λ row fails. fails))
        (λ n apart.
        find_left (is_queue n) (is_queue object.0) s.queues (λ row is. other_number row.serial.0 n object.0 (ne_eqb n object.0 apart) is)
        ∙ leaves.stand.queues n ∙ sym (keeps n apart).queues)
        x

    -- other extents keep their spans
    span_left : (x : ℕ) → x ≢ object.0 → span_row_of after.extents x ≡ span_row_of s.extents x
    span_left x apart =
        ap (option_map row_span)
        (find_left (is_extent x) (is_extent object.0) s.extents (λ row is. other_number row.serial.0 x object.0 (ne_eqb x object.0 apart) is))

    pub spans_left : SpansStand now cleared after.extents
    spans_left x =
        seen_now span_in (span_row_of after.extents)
        (ap (option_map row_span) (find_gone (is_extent object.0) (is_extent object.0) s.extents (λ row fails. fails)))
        (λ n apart. span_left n apart ∙ leaves.stand.spans n ∙ sym (keeps n apart).spans)
        x

    -- no mapping row is of the object
    none_of : count_by (is_mapping_of object.0) s.mappings ≡ 0
    none_of = omega (arith, leaves.may.doomed)

    row_apart : (row : MappingRow) → not (is_mapping_of object.0 row) ≡ true → not (is_row_of object.0 row) ≡ true
    row_apart row apart = by (is_row_of object.0 row) refl
      where
        by : (here : Bool) → is_row_of object.0 row ≡ here → not here ≡ true
        by false is = refl
        by true is =
            absurd (both_ways (is_mapping_of object.0 row) (not_true (is_mapping_of object.0 row) apart)
            (or_left (row.space.0 == object.0) (row.extent.0 == object.0) is))

    pub rows_left : (x : ℕ) → filter (is_row_of x) after.mappings ≡ mappings_in x (body_of now cleared x)
    rows_left x =
        ap (filter (is_row_of x)) (mappings_stay parts s object.0 leaves)
        ∙ seen_now mappings_in (λ n. filter (is_row_of n) s.mappings)
        (none_chosen (is_row_of object.0) s.mappings
        (all_by (λ (row : MappingRow). not (is_mapping_of object.0 row)) (λ (row : MappingRow). not (is_row_of object.0 row)) s.mappings
        row_apart (none_fail (is_mapping_of object.0) s.mappings none_of)))
        (λ n apart. leaves.stand.spaces.mappings n ∙ sym (mappings_follow s.holders holders n _ _ (followed n apart)))
        x

    extent_apart : (x : ℕ) (mapping : Mapping) → not (is_mapping_of object.0 (mapping_row x mapping)) ≡ true
        → mapping.row.extent.0 ≢ object.0
    extent_apart x mapping apart same =
        both_ways (is_mapping_of object.0 (mapping_row x mapping)) (not_true _ apart)
        (or_right (x == object.0) (mapping.row.extent.0 == object.0) (eq-eqb mapping.row.extent.0 object.0 same))

    access_by : (x : ℕ) (space : Mapped) → x ≢ object.0
        → SpaceBefore (ShowsOn s.holders holders) (body_of headers parts.shares x) space
        → Shows (span_row_of after.extents) holders space
    access_by x space apart was =
        let shown : Shows (span_row_of s.extents) holders space =
        was.so.shows (span_row_of s.extents) (leaves.stand.spaces.access x was.space was.is) in
        let named : filter (is_row_of x) s.mappings ≡ map (mapping_row x) space.mappings =
        leaves.stand.spaces.mappings x ∙ space_rows x (body_of headers parts.shares x) was.space was.is
        ∙ ap (map (mapping_row x)) (sym was.so.rows) in
        shows_kept (span_row_of s.extents) (span_row_of after.extents) holders space
        (All-weaker (λ (mapping : Mapping). not (is_mapping_of object.0 (mapping_row x mapping)) ≡ true)
        (KeepsSpan (span_row_of s.extents) (span_row_of after.extents))
        (λ mapping other span is. span_left mapping.row.extent.0 (extent_apart x mapping other) ∙ is)
        space.mappings (mappings_apart object.0 x s.mappings space none_of named))
        shown
      where
        space_rows : (x : ℕ) (body : Body) (space : Mapped) → space_in body ≡ Some space
            → mappings_in x body ≡ map (mapping_row x) space.mappings
        space_rows x (Space one) space is = ap (λ (m : Mapped). map (mapping_row x) m.mappings) (some_same one space is)
        space_rows x _ space is = absurd (let never : ⊥ = cc in never)

    gone_space : (space : Mapped) → space_in (body_of now cleared object.0) ≡ Some space → ⊥
    gone_space space is =
        let none : space_in (body_of now cleared object.0) ≡ None = ap space_in nothing in
        let never : ⊥ = cc in
        never

    access_left : (x : ℕ) (space : Mapped) → space_in (body_of now cleared x) ≡ Some space
        → Shows (span_row_of after.extents) holders space
    access_left x space is =
        elim (cases_eq x object.0) [
          | inl same ↦
              absurd (gone_space space (subst (λ (n : ℕ). space_in (body_of now cleared n) ≡ Some space) same is))
          | inr apart ↦
              access_by x space apart
              (space_before (ShowsOn s.holders holders) (body_of headers parts.shares x) (body_of now cleared x) space (followed x apart) is)
        ]

    pub spaces_left : SpacesStand now cleared after.extents holders after.mappings
    spaces_left = record { mappings = rows_left; access = access_left }
