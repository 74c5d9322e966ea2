-- What is owed behind an entry, at every index.
use Rattle.std.proofs.Common.{◌≡◌, ◌≢◌, ◌==◌, ◌∙◌, ◌++◌, ◌⊎◌, ℕ, false, List, [], ◌∷◌, inl, inr, refl, ap, sym, arith, map, Option, None, find}
use Rattle.std.specs.Option.{option_map_or}
use Rattle.std.proofs.Math.Path.{fun_ext}
use Rattle.std.proofs.lemmas.Bool.Decides.{eqb_tells, nat_tests}
use Rattle.gh_model.specs.References.{references}
use Rattle.gh_model.specs.declared.rows.ObjectRow.{ObjectRow}
use Rattle.gh_model.specs.declared.state.State.{State}
use Rattle.gh_events.specs.Config.{is_at, object_at, references_at}
use Rattle.gh_core.specs.Owing.{owed_behind, owed_in, owing_row}
use Rattle.gh_core.specs.Running.{no_number}
use Rattle.gh_core.specs.Tables.{numbers, put_number}
use Rattle.gh_core.specs.declared.table.Written.{Written}

both_written : (values : ℕ → ℕ) (front back : List Written) → numbers values (front ++ back) ≡ numbers (numbers values front) back
both_written values [] back = refl
both_written values (w ∷ front) back = both_written (put_number values w) front back

module _ (amount index : ℕ → ℕ) where
  -- what stands at an index: the amount, or what stood there where no object has it
  Stands : (ℕ → ℕ) → List ObjectRow → ℕ → Type 0
  Stands values rows at = (numbers values (map (owing_row amount index) rows) at ≡ amount at)
      ⊎ ((numbers values (map (owing_row amount index) rows) at ≡ values at) × (find (is_at index at) rows ≡ None))

  turned : (a b : ℕ) → a ≢ b → (b == a) ≡ false
  turned a b differ = grind (arith, nat_tests)

  pub stands : (rows : List ObjectRow) (values : ℕ → ℕ) (at : ℕ)
      → (numbers values (map (owing_row amount index) rows) at ≡ amount at)
      ⊎ ((numbers values (map (owing_row amount index) rows) at ≡ values at) × (find (is_at index at) rows ≡ None))
  stands [] values at = inr (refl, refl)
  stands (row ∷ rows) values at =
      elim (stands rows (put_number values (owing_row amount index row)) at) as (λ _. (numbers values (map (owing_row amount index) (row ∷ rows)) at ≡ amount at)
      ⊎ ((numbers values (map (owing_row amount index) (row ∷ rows)) at ≡ values at) × (find (is_at index at) (row ∷ rows) ≡ None))) [
        | inl found ↦ inl found
        | inr others ↦ elim (eqb_tells at (index row.serial.0)) as (λ _. (numbers values (map (owing_row amount index) (row ∷ rows)) at ≡ amount at)
            ⊎ ((numbers values (map (owing_row amount index) (row ∷ rows)) at ≡ values at) × (find (is_at index at) (row ∷ rows) ≡ None))) [
              | inl same ↦ inl (others.0 ∙ rw same.0 (ap amount (sym same.1)))
              | inr other ↦ inr (others.0 ∙ rw other.0 refl, rw (turned at (index row.serial.0) other.1) others.1)
            ]
      ]

none_refer : (s : State) (index : ℕ → ℕ) (at : ℕ) → object_at s index at ≡ None → references_at s index at ≡ 0
none_refer s index at none = ap (λ (row : Option ObjectRow). option_map_or (λ (one : ObjectRow). references s one.serial.0) row 0) none

module _ (owed : List Written) (old new : State) (index later : ℕ → ℕ) where
  amount : ℕ → ℕ
  amount = owed_in owed old new index later

  there : (at : ℕ) → numbers no_number (owed_behind owed old new index later) at ≡ owed_in owed old new index later at
  there at = split ∙ by_new (stands (owed_in owed old new index later) later new.objects olds at)
    where
      olds : ℕ → ℕ
      olds = numbers (numbers no_number owed) (map (owing_row (owed_in owed old new index later) index) old.objects)

      split : numbers no_number (owed_behind owed old new index later) at
          ≡ numbers olds (map (owing_row (owed_in owed old new index later) later) new.objects) at
      split = ap (λ (f : ℕ → ℕ). f at) (both_written no_number owed _ ∙ both_written (numbers no_number owed) (map (owing_row (owed_in owed old new index later) index) old.objects) (map (owing_row (owed_in owed old new index later) later) new.objects))

      by_old : object_at new later at ≡ None
          → ((olds at ≡ owed_in owed old new index later at) ⊎ ((olds at ≡ numbers no_number owed at) × (find (is_at index at) old.objects ≡ None)))
          → olds at ≡ owed_in owed old new index later at
      by_old none (inl found) = found
      by_old none (inr others) =
          let before : references_at old index at ≡ 0 = none_refer old index at others.1 in
          let behind : references_at new later at ≡ 0 = none_refer new later at none in
          omega (arith, others.0, before, behind)

      by_new : ((numbers olds (map (owing_row (owed_in owed old new index later) later) new.objects) at ≡ owed_in owed old new index later at)
          ⊎ ((numbers olds (map (owing_row (owed_in owed old new index later) later) new.objects) at ≡ olds at) × (find (is_at later at) new.objects ≡ None)))
          → numbers olds (map (owing_row (owed_in owed old new index later) later) new.objects) at ≡ owed_in owed old new index later at
      by_new (inl found) = found
      by_new (inr others) = others.0 ∙ by_old others.1 (stands (owed_in owed old new index later) index old.objects (numbers no_number owed) at)

  -- behind an entry the table says what is owed
  pub owed_is : numbers no_number (owed_behind owed old new index later) ≡ owed_in owed old new index later
  owed_is = fun_ext there
