-- The sum of a number of each row, once a row is added, changed or taken away.
use Rattle.std.proofs.Common.{◌≡◌, ◌+◌, ◌≤◌, ◌∙◌, ◌⊎◌, inl, inr, ℕ, Bool, true, false, List, [], ◌∷◌, refl, sym, ap, arith, Option, Some, None, find, filter, map, option_map, if◌then◌else◌}
use Rattle.std.specs.Prelude.{count_by, sum_by}
use Rattle.std.proofs.lemmas.Bool.{cases_Bool}
use Rattle.std.proofs.lemmas.List.Sums.{sum_by-cons}
use Rattle.gh_model.specs.Changes.{without}
use Rattle.gh_model.specs.QueueCalls.{one_if}
use Rattle.gh_model.specs.Rows.{change_row}
use Rattle.gh_model.proofs.ChangedRows.{change_here, change_later}
use Rattle.gh_invariant.proofs.Counting.{count_cons, find_here, find_later, one_true, without_here, without_later}
use Rattle.gh_invariant.proofs.RowsLeft.{without_none}

-- the number of a row that may be there
abbrev pub number_found : {R : Type 0} → (R → ℕ) → Option R → ℕ
number_found f None = 0
number_found f (Some row) = f row

-- the number of a row that passes a test
abbrev pub number_if : {R : Type 0} → (R → Bool) → (R → ℕ) → R → ℕ
number_if test f row = if test row then f row else 0

sum_passing_by : {R : Type 0} (test : R → Bool) (f : R → ℕ) (row : R) (rows : List R) (here : Bool)
    → test row ≡ here
    → sum_by (λ (n : ℕ). n) (map f (filter test rows)) ≡ sum_by (number_if test f) rows
    → sum_by (λ (n : ℕ). n) (map f (filter test (row ∷ rows)))
    ≡ number_if test f row + sum_by (number_if test f) rows
sum_passing_by test f row rows true is others =
    rw is (sum_by-cons (λ (n : ℕ). n) (f row) (map f (filter test rows))
    ∙ ap (λ (n : ℕ). f row + n) others)
sum_passing_by test f row rows false is others = rw is (others ∙ omega arith)

-- the numbers of the rows that pass a test, added up
pub sum_passing : {R : Type 0} (test : R → Bool) (f : R → ℕ) (rows : List R)
    → sum_by (λ (n : ℕ). n) (map f (filter test rows)) ≡ sum_by (number_if test f) rows
sum_passing test f [] = refl
sum_passing test f (row ∷ rows) =
    sum_passing_by test f row rows (test row) refl (sum_passing test f rows)
    ∙ sym (sum_by-cons (number_if test f) row rows)

sum_change_by : {R : Type 0} (f : R → ℕ) (q : R → Bool) (change : R → R) (row : R) (rows : List R)
    → (q row ≡ true) ⊎ (q row ≡ false)
    → sum_by f (change_row q change rows) + number_found f (find q rows)
    ≡ sum_by f rows + number_found f (option_map change (find q rows))
    → sum_by f (change_row q change (row ∷ rows)) + number_found f (find q (row ∷ rows))
    ≡ sum_by f (row ∷ rows) + number_found f (option_map change (find q (row ∷ rows)))
sum_change_by {R = R} f q change row rows (inl here) others =
    let new : sum_by f (change_row q change (row ∷ rows)) ≡ f (change row) + sum_by f rows =
    ap (sum_by f) (change_here q change row rows here) ∙ sum_by-cons f (change row) rows in
    let old : sum_by f (row ∷ rows) ≡ f row + sum_by f rows = sum_by-cons f row rows in
    let lost : number_found f (find q (row ∷ rows)) ≡ f row =
    ap (number_found f) (find_here q row rows here) in
    let come : number_found f (option_map change (find q (row ∷ rows))) ≡ f (change row) =
    ap (λ (o : Option R). number_found f (option_map change o)) (find_here q row rows here) in
    omega arith
sum_change_by {R = R} f q change row rows (inr later) others =
    let new : sum_by f (change_row q change (row ∷ rows))
    ≡ f row + sum_by f (change_row q change rows) =
    ap (sum_by f) (change_later q change row rows later)
    ∙ sum_by-cons f row (change_row q change rows) in
    let old : sum_by f (row ∷ rows) ≡ f row + sum_by f rows = sum_by-cons f row rows in
    let lost : number_found f (find q (row ∷ rows)) ≡ number_found f (find q rows) =
    ap (number_found f) (find_later q row rows later) in
    let come : number_found f (option_map change (find q (row ∷ rows)))
    ≡ number_found f (option_map change (find q rows)) =
    ap (λ (o : Option R). number_found f (option_map change o)) (find_later q row rows later) in
    omega arith

-- the sum gives up the row's number, and gets the changed row's
pub sum_change : {R : Type 0} (f : R → ℕ) (q : R → Bool) (change : R → R) (rows : List R)
    → sum_by f (change_row q change rows) + number_found f (find q rows)
    ≡ sum_by f rows + number_found f (option_map change (find q rows))
sum_change f q change [] = refl
sum_change f q change (row ∷ rows) =
    sum_change_by f q change row rows (cases_Bool (q row)) (sum_change f q change rows)

number_kept : {R : Type 0} (f : R → ℕ) (change : R → R) (found : Option R)
    → ((row : R) → f (change row) ≡ f row)
    → number_found f (option_map change found) ≡ number_found f found
number_kept f change None kept = refl
number_kept f change (Some row) kept = kept row

-- a change that keeps the number keeps the sum
pub sum_change_kept : {R : Type 0} (f : R → ℕ) (q : R → Bool) (change : R → R) (rows : List R)
    → ((row : R) → f (change row) ≡ f row) → sum_by f (change_row q change rows) ≡ sum_by f rows
sum_change_kept f q change rows kept =
    omega (arith, sum_change f q change rows, number_kept f change (find q rows) kept)

sum_without_by : {R : Type 0} (f : R → ℕ) (q : R → Bool) (row : R) (rows : List R)
    → (q row ≡ true) ⊎ (q row ≡ false) → count_by q (row ∷ rows) ≤ 1
    → (count_by q rows ≤ 1
    → sum_by f (without q rows) + number_found f (find q rows) ≡ sum_by f rows)
    → sum_by f (without q (row ∷ rows)) + number_found f (find q (row ∷ rows))
    ≡ sum_by f (row ∷ rows)
sum_without_by f q row rows (inl here) once others =
    let all : count_by q (row ∷ rows) ≡ one_if (q row) + count_by q rows = count_cons q row rows in
    let one : one_if (q row) ≡ 1 = one_true (q row) here in
    let new : sum_by f (without q (row ∷ rows)) ≡ sum_by f rows =
    ap (sum_by f) (without_here q row rows here ∙ without_none q rows (omega arith)) in
    let old : sum_by f (row ∷ rows) ≡ f row + sum_by f rows = sum_by-cons f row rows in
    let lost : number_found f (find q (row ∷ rows)) ≡ f row =
    ap (number_found f) (find_here q row rows here) in
    omega arith
sum_without_by f q row rows (inr later) once others =
    let all : count_by q (row ∷ rows) ≡ one_if (q row) + count_by q rows = count_cons q row rows in
    let rest : sum_by f (without q rows) + number_found f (find q rows) ≡ sum_by f rows =
    others (omega arith) in
    let new : sum_by f (without q (row ∷ rows)) ≡ f row + sum_by f (without q rows) =
    ap (sum_by f) (without_later q row rows later) ∙ sum_by-cons f row (without q rows) in
    let old : sum_by f (row ∷ rows) ≡ f row + sum_by f rows = sum_by-cons f row rows in
    let lost : number_found f (find q (row ∷ rows)) ≡ number_found f (find q rows) =
    ap (number_found f) (find_later q row rows later) in
    omega arith

-- where one row passes at most, the sum gives up its number
pub sum_without : {R : Type 0} (f : R → ℕ) (q : R → Bool) (rows : List R) → count_by q rows ≤ 1
    → sum_by f (without q rows) + number_found f (find q rows) ≡ sum_by f rows
sum_without f q [] once = refl
sum_without f q (row ∷ rows) once =
    sum_without_by f q row rows (cases_Bool (q row)) once (λ few. sum_without f q rows few)
