-- Whether nothing refers to an object, by its count.
use Rattle.std.proofs.Common.{◌≡◌, ◌≢◌, ◌+◌, ◌∙◌, ◌==◌, ◌||◌, not, ℕ, Bool, true, List, [], ◌∷◌, Option, Some, None}
use Rattle.std.proofs.Common.{refl, sym, ap, subst, arith, inl, inr, find, is_some}
use Rattle.std.specs.Prelude.{count_by, IsSome}
use Rattle.std.specs.List.{list_any}
use Rattle.std.specs.Option.{option_map}
use Rattle.std.proofs.lemmas.Bool.{cases_Bool, cases_eq, eqb-true, ne_eqb}
use Rattle.std.proofs.lemmas.List.{get_or_past}
use Rattle.gh_base.specs.declared.ids.ObjIndex.{ObjIndex}
use Rattle.gh_extent.specs.Extents.{is_child_of}
use Rattle.gh_invariant.proofs.Counting.{count_cons, found_passes, one_false, one_true}
use Rattle.gh_invariant.proofs.NotLiving.{not_living}
use Rattle.gh_invariant.specs.Effects.{times}
use Rattle.gh_invariant.specs.Valid.{IsValidWithin}
use Rattle.gh_model.specs.References.{is_doomed, references}
use Rattle.gh_model.specs.Rows.{is_object}
use Rattle.gh_model.specs.declared.rows.ExtentRow.{ExtentRow}
use Rattle.gh_model.specs.declared.rows.ObjectRow.{ObjectRow}
use Rattle.gh_model.specs.declared.state.State.{State}
use Rattle.gh_objects.specs.Counts.{count_at, is_doomed as is_doomed_count}
use Rattle.gh_objects.specs.Headers.{header_at}
use Rattle.gh_parts.specs.Index.{found_index, index_of}
use Rattle.gh_parts.specs.ObjectReads.{is_childless}
use Rattle.gh_parts.specs.Stands.{Stands, count_of, extent_rows, header_of}
use Rattle.gh_parts.specs.declared.journal.Memory.{Memory}
use Rattle.gh_parts.specs.declared.journal.Memory.TheVariants.{Bare, Held}
use Rattle.gh_parts.specs.declared.parts.Parts.{Parts}
use Rattle.gh_parts.proofs.IndexLemmas.{found_at, found_header, unfound_past}
use Rattle.gh_parts.proofs.Options.{map_none}
use Rattle.gh_parts.proofs.ZeroReferences.{zero_references}

-- none is counted exactly where none passes
any_counted : {R : Type 0} (p : R → Bool) (rows : List R)
    → not (list_any p rows) ≡ (count_by p rows == 0)
any_counted p [] = refl
any_counted p (row ∷ rows) =
    elim (cases_Bool (p row)) [
      | inl here ↦
          ap (λ (b : Bool). not (b || list_any p rows)) here
          ∙ sym (ne_eqb (count_by p (row ∷ rows)) 0 (λ none. omega (arith, none, count_cons p row rows, one_true (p row) here)))
      | inr later ↦
          ap (λ (b : Bool). not (b || list_any p rows)) later
          ∙ any_counted p rows
          ∙ ap (λ (n : ℕ). n == 0) (omega (arith, count_cons p row rows, one_false (p row) later))
    ]

childless_zero : (memory : Memory) → is_childless memory 0 ≡ not (list_any (is_child_of 0) (extent_rows memory))
childless_zero (Bare pages) = refl
childless_zero (Held extents) = refl

childless_other : (memory : Memory) (serial : ℕ) → serial ≢ 0 → is_childless memory serial ≡ true
childless_other (Bare pages) serial apart = refl
childless_other (Held extents) serial apart =
    ap (λ (b : Bool). not b || not (list_any (is_child_of serial) extents.rows)) (ne_eqb serial 0 apart)

module _ (parts : Parts) (s : State) (stand : Stands parts s) (valid : IsValidWithin s) (serial : ℕ) where
  count_by_row : (found : Option ObjectRow) → find (is_object serial) s.objects ≡ found
      → IsSome (option_map (header_of parts.table.headers) found)
      → is_doomed_count (option_map (count_of s []) found) ≡ is_doomed s serial
  count_by_row None is some = absurd (let never : ⊥ = cc in never)
  count_by_row (Some row) is some =
      let same : references s row.serial.0 ≡ references s serial =
      ap (references s) (eqb-true row.serial.0 serial (found_passes (is_object serial) s.objects row is)) in
      let none : times row.serial.0 [] ≡ 0 = refl in
      ap (λ (n : ℕ). n == 0) (omega (arith, same, none))

  -- the object's count at the index that is found
  pub doomed_found : (index : ObjIndex) → Some index ≡ found_index parts.table.headers serial
      → is_doomed_count (count_at parts.journal.counts index.0) ≡ is_doomed s serial
  doomed_found index found =
      let at : index_of parts.table.headers serial ≡ index.0 = found_at parts.table.headers serial index (sym found) in
      ap (λ (i : ℕ). is_doomed_count (count_at parts.journal.counts i)) (sym at)
      ∙ ap is_doomed_count (stand.references.each serial)
      ∙ count_by_row (find (is_object serial) s.objects) refl
      (subst IsSome (ap (header_at parts.table.headers) (sym at) ∙ stand.objects.each serial)
      (found_header parts.table.headers serial index (sym found)))

  unfound_row : None ≡ found_index parts.table.headers serial → find (is_object serial) s.objects ≡ None
  unfound_row none =
      map_none (header_of parts.table.headers) (find (is_object serial) s.objects)
      (sym (stand.objects.each serial)
      ∙ get_or_past parts.table.headers (index_of parts.table.headers serial) None
      (unfound_past parts.table.headers serial (sym none)))

  zero_told : serial ≡ 0 → is_childless parts.journal.memory serial ≡ is_doomed s serial
  zero_told zero =
      subst (λ (n : ℕ). is_childless parts.journal.memory n ≡ is_doomed s n) (sym zero)
      (childless_zero parts.journal.memory
      ∙ ap (λ (rows : List ExtentRow). not (list_any (is_child_of 0) rows)) stand.memory.rows
      ∙ any_counted (is_child_of 0) s.extents
      ∙ ap (λ (n : ℕ). n == 0) (sym (zero_references (s.entries + 1) s valid)))

  -- what isn't found doesn't live
  pub doomed_unfound : None ≡ found_index parts.table.headers serial
      → is_childless parts.journal.memory serial ≡ is_doomed s serial
  doomed_unfound none =
      elim (cases_eq serial 0) [
        | inl zero ↦ zero_told zero
        | inr apart ↦
            childless_other parts.journal.memory serial apart
            ∙ sym (ap (λ (n : ℕ). n == 0)
            (not_living (s.entries + 1) s serial (omega (arith, apart)) valid (ap is_some (unfound_row none))))
      ]
