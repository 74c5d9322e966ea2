-- Objects and counts stand once an object is removed.
use Rattle.std.proofs.Common.{◌≡◌, ◌≢◌, ◌<◌, ◌∙◌, ◌+◌, ℕ, List, [], Option, Some, None, refl, sym, ap, subst, arith, inl, inr, find, is_some, set, length}
use Rattle.std.specs.Prelude.{slice_index_or}
use Rattle.std.specs.Option.{option_map}
use Rattle.std.proofs.lemmas.Bool.{cases_eq, eqb-true}
use Rattle.std.proofs.lemmas.List.{get_or-set_other, length-set}
use Rattle.gh_base.specs.declared.ids.Serial.{Serial}
use Rattle.gh_invariant.proofs.Counting.{found_passes}
use Rattle.gh_invariant.proofs.ReferencesLaw.{moves}
use Rattle.gh_invariant.specs.Effects.{losses}
use Rattle.gh_model.specs.Changes.{reclaim_object}
use Rattle.gh_model.specs.Rows.{is_object}
use Rattle.gh_model.specs.declared.change.Change.TheVariants.{Reclaim}
use Rattle.gh_model.specs.declared.rows.ObjectRow.{ObjectRow}
use Rattle.gh_model.specs.declared.state.State.{State}
use Rattle.gh_objects.proofs.ListLemmas.{set_none-here}
use Rattle.gh_objects.specs.Counts.{count_at}
use Rattle.gh_objects.specs.Headers.{header_at}
use Rattle.gh_objects.specs.declared.count.Count.{Count}
use Rattle.gh_objects.specs.declared.header.Header.{Header}
use Rattle.gh_parts.specs.Follows.{SharesFollow}
use Rattle.gh_parts.specs.Index.{index_of, indexed}
use Rattle.gh_parts.specs.Shares.{no_place, place_at, with_place}
use Rattle.gh_parts.specs.Stands.{ObjectsStand, ReferencesStand, count_of, header_of}
use Rattle.gh_parts.specs.declared.parts.Parts.{Parts}
use Rattle.gh_parts.specs.declared.shares.Place.{Place}
use Rattle.gh_parts.proofs.Leaving.{Leaves, found_gone, found_left, home_elsewhere, leaves_within}
use Rattle.gh_parts.proofs.Living.{object_some}
use Rattle.gh_parts.proofs.PlaceLemmas.{place_elsewhere, places_whole}
use Rattle.gh_parts.proofs.RemovedIndices.{header_gone, header_left, index_elsewhere, index_left, indexed_left, left_there}

module _ (parts : Parts) (s : State) (object : Serial) (leaves : Leaves parts s object.0) where
  abbrev headers : List (Option Header)
  headers = parts.table.headers

  abbrev at : ℕ
  at = index_of headers object.0

  abbrev now : List (Option Header)
  now = set headers at None

  abbrev after : State
  after = reclaim_object object s

  within : at < length headers
  within = leaves_within parts s object.0 leaves

  pub at_left : (x : ℕ) → x ≢ object.0 → index_of now x ≡ index_of headers x
  at_left x apart = index_left headers leaves.stand.objects.indexed object.0 within x apart

  elsewhere : (x : ℕ) → x ≢ object.0 → index_of headers x ≢ at
  elsewhere x apart = index_elsewhere headers leaves.stand.objects.indexed object.0 within x apart

  header_same : (x : ℕ) → x ≢ object.0 → (found : Option ObjectRow) → find (is_object x) s.objects ≡ found
      → option_map (header_of headers) found ≡ option_map (header_of now) found
  header_same x apart None is = refl
  header_same x apart (Some one) is =
      ap (λ (i : ℕ). Some (record { kind = one.kind; partition = indexed i; serial = one.serial; stage = one.stage }))
      (sym (at_left one.partition.0 (home_elsewhere parts s object.0 leaves x one apart is)))

  each_now : (x : ℕ) → header_at now (index_of now x) ≡ option_map (header_of now) (find (is_object x) after.objects)
  each_now x =
      elim (cases_eq x object.0) [
        | inl same ↦
            subst (λ (n : ℕ). header_at now (index_of now n) ≡ option_map (header_of now) (find (is_object n) after.objects)) (sym same)
            (header_gone headers leaves.stand.objects.indexed object.0 within
            ∙ sym (ap (option_map (header_of now)) (found_gone parts s object.0 leaves)))
        | inr apart ↦
            header_left headers leaves.stand.objects.indexed object.0 within x apart
            ∙ leaves.stand.objects.each x
            ∙ header_same x apart (find (is_object x) s.objects) refl
            ∙ ap (option_map (header_of now)) (sym (found_left parts s object.0 leaves x apart))
      ]

  -- a row that is left is another object's
  left_apart : (x : ℕ) (one : ObjectRow) → find (is_object x) after.objects ≡ Some one → x ≢ object.0
  left_apart x one is same =
      let none : find (is_object x) after.objects ≡ None =
      subst (λ (n : ℕ). find (is_object n) after.objects ≡ None) (sym same) (found_gone parts s object.0 leaves) in
      let never : ⊥ = cc in
      never

  row_left : (x : ℕ) (one : ObjectRow) → find (is_object x) after.objects ≡ Some one
      → find (is_object x) s.objects ≡ Some one
  row_left x one is = sym (found_left parts s object.0 leaves x (left_apart x one is)) ∙ is

  abbrev retirements : List (Option (List ℕ))
  retirements = set parts.journal.retirements at None

  retired_now : (x : ℕ) (one : ObjectRow) → find (is_object x) after.objects ≡ Some one
      → slice_index_or retirements (index_of now x) None ≡ one.retired
  retired_now x one is =
      ap (λ (i : ℕ). slice_index_or retirements i None) (at_left x (left_apart x one is))
      ∙ get_or-set_other parts.journal.retirements at (index_of headers x) None None (elsewhere x (left_apart x one is))
      ∙ leaves.stand.objects.retired x one (row_left x one is)

  -- references
  abbrev counts : List (Option Count)
  counts = set parts.journal.counts at None

  count_with : ObjectRow → ℕ → Count
  count_with one n = record { serial = one.serial; references = n; retired = is_some one.retired }

  count_same : (x : ℕ) (found : Option ObjectRow) → find (is_object x) s.objects ≡ found
      → option_map (count_of s []) found ≡ option_map (count_of after (losses s (Reclaim object))) found
  unfolding count_with
  count_same x None is = refl
  count_same x (Some one) is =
      let same : one.serial.0 ≡ x = eqb-true one.serial.0 x (found_passes (is_object x) s.objects one is) in
      let some : 0 < x = object_some (s.entries + 1) s leaves.valid x one is in
      ap (λ (n : ℕ). Some (count_with one n))
      (omega (arith, moves (s.entries + 1) s leaves.valid one.serial.0 (Reclaim object) (omega arith) leaves.may))

  bare_now : (index : ℕ) → header_at now index ≡ None → count_at counts index ≡ None
  bare_now index none =
      elim (cases_eq index at) [
        | inl same ↦
            subst (λ (i : ℕ). count_at counts i ≡ None) (sym same) (set_none-here parts.journal.counts at)
        | inr apart ↦
            get_or-set_other parts.journal.counts at index None None apart
            ∙ leaves.stand.references.bare index
            (sym (left_there headers leaves.stand.objects.indexed object.0 within index apart) ∙ none)
      ]

  counts_now : (x : ℕ) → count_at counts (index_of now x)
      ≡ option_map (count_of after (losses s (Reclaim object))) (find (is_object x) after.objects)
  counts_now x =
      elim (cases_eq x object.0) [
        | inl same ↦
            subst (λ (n : ℕ). count_at counts (index_of now n)
            ≡ option_map (count_of after (losses s (Reclaim object))) (find (is_object n) after.objects)) (sym same)
            (bare_now (index_of now object.0) (header_gone headers leaves.stand.objects.indexed object.0 within)
            ∙ sym (ap (option_map (count_of after (losses s (Reclaim object)))) (found_gone parts s object.0 leaves)))
        | inr apart ↦
            ap (count_at counts) (at_left x apart)
            ∙ get_or-set_other parts.journal.counts at (index_of headers x) None None (elsewhere x apart)
            ∙ leaves.stand.references.each x
            ∙ count_same x (find (is_object x) s.objects) refl
            ∙ ap (option_map (count_of after (losses s (Reclaim object)))) (sym (found_left parts s object.0 leaves x apart))
      ]

  pub references_left : ReferencesStand now counts (losses s (Reclaim object)) after
  references_left = record { each = counts_now; bare = bare_now }

  module _ (holders : List Serial) (shares : List (List Place)) (follow : SharesFollow s.holders holders parts.shares shares)
    where
      abbrev cleared : List (List Place)
      cleared = with_place shares at no_place

      -- what is at another object's index stays
      pub place_left : (x : ℕ) → x ≢ object.0
          → place_at cleared (index_of now x) ≡ place_at shares (index_of headers x)
      place_left x apart =
          ap (place_at cleared) (at_left x apart)
          ∙ place_elsewhere shares at no_place (index_of headers x) (elsewhere x apart)

      costs_now : (x : ℕ) (one : ObjectRow) → find (is_object x) after.objects ≡ Some one
          → (place_at cleared (index_of now x)).cost ≡ one.cost
      costs_now x one is =
          ap (λ (p : Place). p.cost) (place_left x (left_apart x one is))
          ∙ follow.costs (index_of headers x)
          ∙ leaves.stand.objects.costs x one (row_left x one is)

      pub objects_now : ObjectsStand now cleared retirements after.objects
      objects_now = record {
        indexed = indexed_left headers leaves.stand.objects.indexed object.0 within;
        whole = places_whole shares at no_place follow.whole;
        each = each_now;
        costs = costs_now;
        retired = retired_now;
        room = length-set parts.journal.retirements at None ∙ leaves.stand.objects.room;
      }
