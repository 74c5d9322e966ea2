-- Objects are no more than indices, and so each has few references.
use Rattle.std.proofs.Common.{◌≡◌, ◌==◌, ◌<◌, ◌≤◌, ◌∙◌, ℕ, Bool, true, length, Option, Some, None, refl, sym, ap, arith, inl, inr, find}
use Rattle.std.specs.Prelude.{count_by, is_some, nat_lt, slice_get}
use Rattle.std.specs.Option.{option_map}
use Rattle.std.proofs.lemmas.Bool.{cases_lt, eq-eqb, eqb-true, lt-ltb}
use Rattle.std.proofs.lemmas.List.{get_or_past}
use Rattle.gh_base.specs.declared.limits.TheConstants.{HISTORY_ENTRIES, OBJECT_INDICES}
use Rattle.gh_events.proofs.Boxes.{all_of, few_numbered, more_pass, one_of}
use Rattle.gh_events.proofs.FewRows.{few_references}
use Rattle.gh_events.proofs.Finding.{same_number}
use Rattle.gh_events.proofs.LengthBoot.{few_capabilities}
use Rattle.gh_invariant.proofs.Counting.{count_unfound, found_passes}
use Rattle.gh_invariant.specs.Lives.{lives}
use Rattle.gh_invariant.specs.Valid.{IsValid}
use Rattle.gh_model.specs.Rows.{is_object}
use Rattle.gh_model.specs.Small.{IsKept}
use Rattle.gh_model.specs.declared.rows.ObjectRow.{ObjectRow}
use Rattle.gh_model.specs.declared.state.State.{State}
use Rattle.gh_objects.specs.Headers.{header_at}
use Rattle.gh_parts.specs.Index.{index_of}
use Rattle.gh_parts.specs.Making.{HasRoom}
use Rattle.gh_parts.specs.Past.{HasFewSeats}
use Rattle.gh_parts.specs.Stands.{Stands, header_of}
use Rattle.gh_parts.specs.declared.parts.Parts.{Parts}
use Rattle.gh_parts.proofs.IndexLemmas.{one_serial}

module _ (parts : Parts) (s : State) (stand : Stands parts s) where
  number : ObjectRow → ℕ
  number row = index_of parts.table.headers row.serial.0

  numbered : ℕ → ObjectRow → Bool
  numbered at row = index_of parts.table.headers row.serial.0 == at

  -- what lives has one of the indices
  below_by : (serial : ℕ) (found : Option ObjectRow) → find (is_object serial) s.objects ≡ found
      → is_some found ≡ true → index_of parts.table.headers serial < length parts.table.headers
  below_by serial None is alive = absurd (let never : ⊥ = cc in never)
  below_by serial (Some row) is alive =
      let there : header_at parts.table.headers (index_of parts.table.headers serial) ≡ Some (header_of parts.table.headers row) =
      stand.objects.each serial ∙ ap (option_map (header_of parts.table.headers)) is in
      elim (cases_lt (index_of parts.table.headers serial) (length parts.table.headers)) [
        | inl below ↦ below
        | inr past ↦
            let none : header_at parts.table.headers (index_of parts.table.headers serial) ≡ None =
            get_or_past parts.table.headers (index_of parts.table.headers serial) None past in
            absurd (let never : ⊥ = cc in never)
      ]

  below : (serial : ℕ) → lives s.objects serial ≡ true → index_of parts.table.headers serial < length parts.table.headers
  below serial alive = below_by serial (find (is_object serial) s.objects) refl alive

  -- the object of each row lives
  alive_by : (serial : ℕ) (found : Option ObjectRow) → find (is_object serial) s.objects ≡ found
      → 1 ≤ count_by (is_object serial) s.objects → is_some found ≡ true
  alive_by serial None is some = absurd (omega (arith, count_unfound (is_object serial) s.objects is))
  alive_by serial (Some row) is some = refl

  alive : (i : ℕ) (row : ObjectRow) → slice_get s.objects i ≡ Some row → lives s.objects row.serial.0 ≡ true
  alive i row is =
      alive_by row.serial.0 (find (is_object row.serial.0) s.objects) refl
      (one_of (is_object row.serial.0) s.objects i row is (same_number row.serial.0))

  same_object : (at : ℕ) (one : ObjectRow) → find (numbered at) s.objects ≡ Some one → (i : ℕ) (row : ObjectRow)
      → slice_get s.objects i ≡ Some row → numbered at row ≡ true → is_object one.serial.0 row ≡ true
  unfolding numbered
  same_object at one found i row is here =
      let same : index_of parts.table.headers row.serial.0 ≡ index_of parts.table.headers one.serial.0 =
      eqb-true (index_of parts.table.headers row.serial.0) at here
      ∙ sym (eqb-true (index_of parts.table.headers one.serial.0) at
      (found_passes (λ (other : ObjectRow). index_of parts.table.headers other.serial.0 == at) s.objects one found)) in
      eq-eqb row.serial.0 one.serial.0
      (one_serial parts.table.headers row.serial.0 one.serial.0 (below row.serial.0 (alive i row is)) same)

  one_by : IsValid s → (at : ℕ) (found : Option ObjectRow) → find (numbered at) s.objects ≡ found
      → count_by (numbered at) s.objects ≤ 1
  one_by valid at None is = omega (arith, count_unfound (numbered at) s.objects is)
  one_by valid at (Some one) is =
      omega (arith, more_pass (numbered at) (is_object one.serial.0) s.objects (same_object at one is), valid.objects.once one.serial.0)

  pub few_objects : IsValid s → length s.objects ≤ OBJECT_INDICES
  unfolding number numbered
  few_objects valid =
      few_numbered number OBJECT_INDICES s.objects
      (all_of (λ (row : ObjectRow). nat_lt (number row) OBJECT_INDICES) s.objects within)
      (λ at. one_by valid at (find (numbered at) s.objects) refl)
    where
      within : (i : ℕ) (row : ObjectRow) → slice_get s.objects i ≡ Some row
          → nat_lt (number row) OBJECT_INDICES ≡ true
      within i row is =
          lt-ltb (index_of parts.table.headers row.serial.0) OBJECT_INDICES
          (omega (arith, below row.serial.0 (alive i row is), stand.objects.indexed.indices))

  -- so there is room for any change
  pub has_room : IsValid s → IsKept s → HasFewSeats s → s.entries < HISTORY_ENTRIES → HasRoom s
  has_room valid kept seats more = record {
    entries = omega arith;
    serials = omega (arith, kept.serials);
    rings = omega (arith, kept.rings);
    references = λ object lives_so. omega (
      arith,
      few_references s valid object,
      few_objects valid,
      few_capabilities s valid,
      seats.cpus,
      seats.links,
    );
  }
