-- Counts stand once an object is entered.
use Rattle.std.proofs.Common.{◌≡◌, ◌≢◌, ◌<◌, ◌∙◌, ◌∷◌, ◌++◌, ◌+◌, ℕ, false, List, [], Option, Some, None, refl, sym, ap, subst, arith, inl, inr}
use Rattle.std.proofs.Common.{length, find, set, is_some}
use Rattle.std.specs.Option.{option_map}
use Rattle.std.proofs.lemmas.Bool.{cases_eq, eqb-true}
use Rattle.std.proofs.lemmas.List.{get_or-set_other, get_or-set_same}
use Rattle.gh_base.specs.declared.ids.Serial.{Serial}
use Rattle.gh_base.specs.declared.limits.TheConstants.{OBJECT_INDICES}
use Rattle.gh_invariant.proofs.Counting.{found_passes}
use Rattle.gh_invariant.specs.Effects.{times}
use Rattle.gh_model.specs.References.{references}
use Rattle.gh_model.specs.Rows.{is_object}
use Rattle.gh_model.specs.declared.rows.ObjectRow.{ObjectRow}
use Rattle.gh_model.specs.declared.state.State.{State}
use Rattle.gh_objects.specs.Counts.{count_at}
use Rattle.gh_objects.specs.Headers.{header_at}
use Rattle.gh_objects.specs.declared.count.Count.{Count}
use Rattle.gh_objects.specs.declared.header.Header.{Header}
use Rattle.gh_parts.specs.Index.{index_of, indexed}
use Rattle.gh_parts.specs.Stands.{ReferencesStand, count_of}
use Rattle.gh_parts.specs.declared.parts.Parts.{Parts}
use Rattle.gh_parts.proofs.AddedIndices.{header_here, header_there, index_apart}
use Rattle.gh_parts.proofs.Entering.{Enters, at_here, at_there, found_here, found_there, unindexed}
use Rattle.gh_parts.proofs.Living.{object_some}

-- the references of a state with the object, where so many are counted for it and so many are owed
pub record Refers (owed : List Serial) (s after : State) (serial count : ℕ) : Type 0 where
  pub here : references after serial ≡ count
  pub there : (x : ℕ) → 0 < x → x ≢ serial → references s x + times x owed ≡ references after x

module _ (owed : List Serial) (parts : Parts) (s after : State) (row : ObjectRow) (home at count : ℕ)
    (enters : Enters owed parts s row home at) (refers : Refers owed s after row.serial.0 count)
    (added : after.objects ≡ s.objects ++ row ∷ []) (room : length parts.journal.counts ≡ OBJECT_INDICES) where
  abbrev headers : List (Option Header)
  headers = parts.table.headers

  abbrev serial : ℕ
  serial = row.serial.0

  abbrev header : Header
  header = record {
    kind = row.kind;
    partition = indexed home;
    serial = row.serial;
    stage = row.stage;
  }

  abbrev now : List (Option Header)
  now = set headers at (Some header)

  abbrev new : Count
  new = record { serial = row.serial; references = count; retired = false }

  abbrev counts : List (Option Count)
  counts = set parts.journal.counts at (Some new)

  count_with : ObjectRow → ℕ → Count
  count_with one n = record { serial = one.serial; references = n; retired = is_some one.retired }

  new_is : new ≡ count_of after [] row
  unfolding count_with
  new_is =
      ap (λ (found : Option (List ℕ)). record { serial = row.serial; references = count; retired = is_some found })
      (sym enters.unretired)
      ∙ ap (count_with row) (omega (arith, refers.here))

  count_same : (x : ℕ) (found : Option ObjectRow) → x ≢ serial → find (is_object x) s.objects ≡ found
      → option_map (count_of s owed) found ≡ option_map (count_of after []) found
  unfolding count_with
  count_same x None apart is = refl
  count_same x (Some one) apart is =
      let same : one.serial.0 ≡ x = eqb-true one.serial.0 x (found_passes (is_object x) s.objects one is) in
      let some : 0 < x = object_some (s.entries + 1) s enters.valid x one is in
      let none : times one.serial.0 [] ≡ 0 = refl in
      let there : references s one.serial.0 + times one.serial.0 owed ≡ references after one.serial.0 =
      refers.there one.serial.0 (omega arith) (λ also. apart (sym same ∙ also)) in
      ap (λ (n : ℕ). Some (count_with one n)) (omega arith)

  count_there : (x : ℕ) → x ≢ serial
      → count_at counts (index_of now x) ≡ count_at parts.journal.counts (index_of headers x)
  count_there x apart =
      ap (count_at counts) (at_there owed parts s row home at enters x apart)
      ∙ get_or-set_other parts.journal.counts at (index_of headers x) (Some new) None
      (index_apart headers enters.stand.objects.indexed at header enters.below enters.free
      (unindexed owed parts s row home at enters) x)

  counts_now : (x : ℕ) → count_at counts (index_of now x) ≡ option_map (count_of after []) (find (is_object x) after.objects)
  counts_now x =
      elim (cases_eq x serial) [
        | inl same ↦
            subst (λ (n : ℕ). count_at counts (index_of now n) ≡ option_map (count_of after []) (find (is_object n) after.objects)) (sym same)
            (ap (count_at counts) (at_here owed parts s row home at enters)
            ∙ get_or-set_same parts.journal.counts at (Some new) None (omega (arith, room, enters.below))
            ∙ ap Some new_is
            ∙ ap (option_map (count_of after [])) (sym (ap (find (is_object serial)) added ∙ found_here owed parts s row home at enters)))
        | inr apart ↦
            count_there x apart ∙ enters.stand.references.each x
            ∙ count_same x (find (is_object x) s.objects) apart refl
            ∙ ap (option_map (count_of after []))
            (sym (ap (find (is_object x)) added ∙ found_there owed parts s row home at enters x apart))
      ]

  bare_now : (index : ℕ) → header_at now index ≡ None → count_at counts index ≡ None
  bare_now index none =
      elim (cases_eq index at) [
        | inl same ↦ absurd (taken (subst (λ (i : ℕ). header_at now i ≡ None) same none))
        | inr apart ↦
            get_or-set_other parts.journal.counts at index (Some new) None apart
            ∙ enters.stand.references.bare index
            (sym (header_there headers enters.stand.objects.indexed at header enters.below enters.free (unindexed owed parts s row home at enters) index apart) ∙ none)
      ]
    where
      taken : header_at now at ≡ None → ⊥
      taken free =
          let there : header_at now at ≡ Some header =
          header_here headers enters.stand.objects.indexed at header enters.below enters.free
          (unindexed owed parts s row home at enters) in
          let never : ⊥ = cc in
          never

  -- references
  pub references_now : ReferencesStand now counts [] after
  references_now = record { each = counts_now; bare = bare_now }
