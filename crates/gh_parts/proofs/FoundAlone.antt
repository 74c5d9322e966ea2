-- The one row that passes a test, found by another.
use Rattle.std.proofs.Common.{◌≡◌, ◌≤◌, ◌∙◌, ◌&&◌, ◌||◌, Bool, true, false, List, [], ◌∷◌, Some}
use Rattle.std.proofs.Common.{refl, sym, ap, arith, inl, inr, find, is_some}
use Rattle.std.specs.Prelude.{count_by}
use Rattle.std.specs.List.{list_all, list_any}
use Rattle.std.proofs.lemmas.Bool.{cases_Bool}
use Rattle.gh_invariant.proofs.Counting.{count_cons, find_here, find_later, one_true}
use Rattle.gh_parts.proofs.Options.{some_same}

-- two facts that follow from each other are decided alike
pub same_truth : (a b : Bool) → (a ≡ true → b ≡ true) → (b ≡ true → a ≡ true) → a ≡ b
same_truth true b onward back = sym (onward refl)
same_truth false true onward back = back refl
same_truth false false onward back = refl

module _ {R : Type 0} where
  -- one passes exactly where one is found
  pub any_some : (p : R → Bool) (rows : List R) → list_any p rows ≡ is_some (find p rows)
  any_some p [] = refl
  any_some p (row ∷ rows) =
      elim (cases_Bool (p row)) [
        | inl here ↦
            ap (λ (b : Bool). b || list_any p rows) here ∙ sym (ap is_some (find_here p row rows here))
        | inr later ↦
            ap (λ (b : Bool). b || list_any p rows) later ∙ any_some p rows ∙ sym (ap is_some (find_later p row rows later))
      ]

  module _ (p q : R → Bool) (row : R) (passes : q row ≡ true) where
    -- a row that is found and passes another test is counted by that
    counted_one : (rows : List R) → find p rows ≡ Some row → 1 ≤ count_by q rows
    counted_one [] is = absurd (let never : ⊥ = cc in never)
    counted_one (first ∷ rows) is =
        elim (cases_Bool (p first)) [
          | inl here ↦
              let same : first ≡ row = some_same first row (sym (find_here p first rows here) ∙ is) in
              omega (arith, count_cons q first rows, one_true (q first) (ap q same ∙ passes))
          | inr later ↦
              omega (arith, count_cons q first rows, counted_one rows (sym (find_later p first rows later) ∙ is))
        ]

    -- and found by it, where one passes at most
    pub found_alone : (rows : List R) → find p rows ≡ Some row → count_by q rows ≤ 1 → find q rows ≡ Some row
    found_alone [] is once = absurd (let never : ⊥ = cc in never)
    found_alone (first ∷ rows) is once =
        elim (cases_Bool (p first)) [
          | inl here ↦
              let same : first ≡ row = some_same first row (sym (find_here p first rows here) ∙ is) in
              find_here q first rows (ap q same ∙ passes) ∙ ap Some same
          | inr later ↦
              let rest : find p rows ≡ Some row = sym (find_later p first rows later) ∙ is in
              elim (cases_Bool (q first)) [
                | inl also ↦
                    absurd (omega (arith, once, count_cons q first rows, one_true (q first) also, counted_one rows rest))
                | inr past ↦
                    find_later q first rows past
                    ∙ found_alone rows rest (omega (arith, once, count_cons q first rows))
              ]
        ]

  -- a row that is found passes another test, and so one does
  pub any_found : (p q : R → Bool) (rows : List R) (row : R) → find q rows ≡ Some row → p row ≡ true
      → list_any p rows ≡ true
  any_found p q [] row is passes = absurd (let never : ⊥ = cc in never)
  any_found p q (first ∷ rows) row is passes =
      elim (cases_Bool (p first)) [
        | inl here ↦ ap (λ (b : Bool). b || list_any p rows) here
        | inr later ↦
            ap (λ (b : Bool). b || list_any p rows) later
            ∙ elim (cases_Bool (q first)) [
              | inl also ↦
                  let same : first ≡ row = some_same first row (sym (find_here q first rows also) ∙ is) in
                  absurd (let not : false ≡ true = sym later ∙ ap p same ∙ passes in let never : ⊥ = cc in never)
              | inr past ↦ any_found p q rows row (sym (find_later q first rows past) ∙ is) passes
            ]
      ]

  -- tests that agree are passed alike by all
  pub all_alike : (p q : R → Bool) (rows : List R) → ((row : R) → p row ≡ q row) → list_all p rows ≡ list_all q rows
  all_alike p q [] same = refl
  all_alike p q (row ∷ rows) same =
      ap (λ (b : Bool). b && list_all p rows) (same row) ∙ ap (λ (b : Bool). q row && b) (all_alike p q rows same)
