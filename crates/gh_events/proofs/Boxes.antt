-- Rows counted by the boxes that they lie in, and by what holds of each row of a list.
use Rattle.std.proofs.Common.{◌≡◌, ◌==◌, ◌+◌, ◌<◌, ◌≤◌, ◌∙◌, inl, inr, ℕ, zero, suc, Bool, true, false, List, [], ◌∷◌, length, refl, sym, ap, arith, IsTrue, Some, slice_get}
use Rattle.std.specs.Prelude.{count_by, nat_lt}
use Rattle.std.specs.List.{list_all, range_with_len, sum_by}
use Rattle.std.proofs.lemmas.Bool.{and_from, and_parts, eq-eqb, ltb-true}
use Rattle.std.proofs.lemmas.Bool.Decides.{eqb_tells, nat_tests}
use Rattle.std.proofs.lemmas.List.FromFn.{length-range_with_len}
use Rattle.std.proofs.lemmas.List.Sums.{sum_by-cons}
use Rattle.gh_model.specs.QueueCalls.{one_if}
use Rattle.gh_invariant.proofs.Counting.{count_cons}

-- each row of a list

-- P of each row of a list
abbrev pub Each : {R : Type 0} → (R → Type 0) → List R → Type 0
Each {R} P rows = (i : ℕ) (row : R) → slice_get rows i ≡ Some row → P row

one_within : (a b : Bool) → (a ≡ true → b ≡ true) → one_if a ≤ one_if b
one_within true b follows = let one : one_if true ≡ 1 = refl in omega (arith, ap one_if (follows refl))
one_within false b follows = let none : one_if false ≡ 0 = refl in omega arith

module _ {R : Type 0} where
  -- where each passes a test, all do
  pub all_of : (test : R → Bool) (rows : List R) → Each (λ row. test row ≡ true) rows
      → IsTrue (list_all test rows)
  all_of test [] each = refl
  all_of test (row ∷ rows) each =
      and_from (test row) (list_all test rows) (each zero row refl) (all_of test rows (λ i other is. each (suc i) other is))

  -- a row that passes is counted
  pub one_of : (test : R → Bool) (rows : List R) (i : ℕ) (row : R) → slice_get rows i ≡ Some row
      → test row ≡ true → 1 ≤ count_by test rows
  one_of test [] i row is passes = absurd (let never : ⊥ = cc in never)
  one_of test (first ∷ rows) zero row is passes =
      let same : first ≡ row = cc in
      omega (arith, count_cons test first rows, ap one_if (ap test same ∙ passes))
  one_of test (first ∷ rows) (suc i) row is passes =
      omega (arith, count_cons test first rows, one_of test rows i row is passes)

  -- where one test follows from another for each row, no fewer pass it
  pub more_pass : (test other : R → Bool) (rows : List R)
      → Each (λ row. test row ≡ true → other row ≡ true) rows → count_by test rows ≤ count_by other rows
  more_pass test other [] each = let none : count_by test [] ≡ 0 = refl in omega arith
  more_pass test other (row ∷ rows) each =
      omega (
        arith,
        count_cons test row rows,
        count_cons other row rows,
        one_within (test row) (other row) (each zero row refl),
        more_pass test other rows (λ i one is. each (suc i) one is),
      )

-- rows in boxes

module _ {C R : Type 0} (holds : C → R → Bool) where
  -- one more row in the boxes
  one_more : (boxes : List C) (row : R) (rows : List R)
      → sum_by (λ (box : C). count_by (holds box) (row ∷ rows)) boxes
      ≡ count_by (λ (box : C). holds box row) boxes + sum_by (λ (box : C). count_by (holds box) rows) boxes
  one_more [] row rows = refl
  one_more (box ∷ boxes) row rows =
      omega (
        arith,
        sum_by-cons (λ (one : C). count_by (holds one) (row ∷ rows)) box boxes,
        sum_by-cons (λ (one : C). count_by (holds one) rows) box boxes,
        count_cons (λ (one : C). holds one row) box boxes,
        count_cons (holds box) row rows,
        one_more boxes row rows,
      )

  -- where each row of a kind is in a box, the rows are at most what the boxes may hold
  pub in_boxes : (boxes : List C) (keep fit : R → Bool) (rows : List R)
      → ((row : R) → IsTrue (fit row) → keep row ≡ true → 1 ≤ count_by (λ (box : C). holds box row) boxes)
      → IsTrue (list_all fit rows)
      → count_by keep rows ≤ sum_by (λ (box : C). count_by (holds box) rows) boxes
  in_boxes boxes keep fit [] each fits = let none : count_by keep [] ≡ 0 = refl in omega arith
  in_boxes boxes keep fit (row ∷ rows) each fits =
      let both = and_parts (fit row) (list_all fit rows) fits in
      omega (arith, count_cons keep row rows, one_more boxes row rows, in_boxes boxes keep fit rows each both.1, here (keep row) refl both.0)
    where
      here : (kept : Bool) → keep row ≡ kept → IsTrue (fit row)
          → one_if kept ≤ count_by (λ (box : C). holds box row) boxes
      here true is first = let one : one_if true ≡ 1 = refl in omega (arith, each row first is)
      here false is first = let none : one_if false ≡ 0 = refl in omega arith

  pub sum_most : (most : C → ℕ) (rows : List R) (boxes : List C) → ((box : C) → count_by (holds box) rows ≤ most box)
      → sum_by (λ (box : C). count_by (holds box) rows) boxes ≤ sum_by most boxes
  sum_most most rows [] few = omega arith
  sum_most most rows (box ∷ boxes) few =
      omega (arith, sum_by-cons (λ (one : C). count_by (holds one) rows) box boxes, sum_by-cons most box boxes, few box, sum_most most rows boxes few)

-- a number of a range is counted
pub in_range : (p : ℕ → Bool) (first n k : ℕ) → first ≤ k → k < first + n → p k ≡ true
    → 1 ≤ count_by p (range_with_len first n)
in_range p first zero k low high passes = absurd (omega arith)
in_range p first (suc n) k low high passes =
    elim (eqb_tells k first) as (λ _. 1 ≤ count_by p (first ∷ range_with_len (first + 1) n)) [
      | inl same ↦
          let here : one_if (p first) ≡ 1 = ap one_if (ap p (sym same.1) ∙ passes) in
          omega (arith, count_cons p first (range_with_len (first + 1) n), here)
      | inr differs ↦
          let apart : (k == first) ≡ false = differs.0 in
          let above : first + 1 ≤ k = grind (arith, nat_tests) in
          omega (arith, count_cons p first (range_with_len (first + 1) n), in_range p (first + 1) n k above (omega arith) passes)
    ]

pub ones : {X : Type 0} (xs : List X) → sum_by (λ (x : X). 1) xs ≡ length xs
ones [] = refl
ones {X = X} (x ∷ xs) = omega (arith, sum_by-cons (λ (one : X). 1) x xs, ones xs)

-- rows with different numbers below k are at most k
module _ {R : Type 0} (number : R → ℕ) (k : ℕ) (rows : List R) where
  numbered : ℕ → R → Bool
  numbered at row = number row == at

  pub few_numbered : IsTrue (list_all (λ (row : R). nat_lt (number row) k) rows)
      → ((at : ℕ) → count_by (λ (row : R). number row == at) rows ≤ 1) → length rows ≤ k
  unfolding numbered
  few_numbered within once =
      let each : count_by (λ (row : R). true) rows ≤ sum_by (λ (at : ℕ). count_by (numbered at) rows) (range_with_len 0 k) =
      in_boxes numbered (range_with_len 0 k) (λ row. true) (λ (row : R). nat_lt (number row) k) rows its within in
      let most : sum_by (λ (at : ℕ). count_by (numbered at) rows) (range_with_len 0 k) ≤ sum_by (λ (at : ℕ). 1) (range_with_len 0 k) =
      sum_most numbered (λ at. 1) rows (range_with_len 0 k) once in
      omega (arith, each, most, ones (range_with_len 0 k), length-range_with_len 0 k, ones rows)
    where
      its : (row : R) → IsTrue (nat_lt (number row) k) → true ≡ true
          → 1 ≤ count_by (λ (at : ℕ). numbered at row) (range_with_len 0 k)
      its row below here =
          in_range (λ (at : ℕ). numbered at row) 0 k (number row) (omega arith) (omega (arith, ltb-true (number row) k below)) (eq-eqb (number row) (number row) refl)
