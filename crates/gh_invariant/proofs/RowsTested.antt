-- Tests of all rows, where what is known is known of the row that is found, or of those not
-- counted.
use Rattle.std.proofs.Common.{◌≡◌, ◌+◌, ◌≤◌, ◌∙◌, ◌&&◌, ◌==◌, ◌⊎◌, inl, inr, ℕ, Bool, true, false, not, List, [], ◌∷◌, refl, ap, arith, IsTrue, Option, Some, None, find, option_map}
use Rattle.std.specs.Prelude.{count_by}
use Rattle.std.specs.List.{list_all}
use Rattle.std.proofs.lemmas.Bool.{and_from, and_parts, cases_Bool, not-true}
use Rattle.std.proofs.lemmas.Bool.Decides.{nat_tests}
use Rattle.gh_model.specs.Changes.{without}
use Rattle.gh_model.specs.QueueCalls.{one_if}
use Rattle.gh_model.specs.Rows.{change_row}
use Rattle.gh_model.proofs.ChangedRows.{change_here, change_later}
use Rattle.gh_invariant.proofs.Counting.{all_by_two, count_cons, count_found, find_here, find_later, found_passes, none_fail, one_true}
use Rattle.gh_invariant.proofs.ChangedRow.{count_change}
use Rattle.gh_invariant.proofs.RowsLeft.{all_left}

-- numbers that are one number aren't another
pub other_number : (a n x : ℕ) → (n == x) ≡ false → (a == x) ≡ true → (a == n) ≡ false
other_number a n x other is = grind (arith, nat_tests)

-- where a test follows from another for rows that stay and that a third doesn't count, all that
-- stay pass it
pub all_uncounted : {R : Type 0} (p r t q : R → Bool) (rows : List R)
    → ((row : R) → q row ≡ false → t row ≡ false → IsTrue (p row) → IsTrue (r row))
    → count_by t rows ≡ 0 → IsTrue (list_all p rows) → IsTrue (list_all r (without q rows))
all_uncounted {R = R} p r t q rows follows none all =
    all_left (λ (row : R). not (t row) && p row) r q rows
    (λ row stays passes.
    follows row stays (not-true (t row) (and_parts (not (t row)) (p row) passes).0)
    (and_parts (not (t row)) (p row) passes).1)
    (all_by_two (λ (row : R). not (t row)) p (λ (row : R). not (t row) && p row) rows
    (λ row fails passes. and_from (not (t row)) (p row) fails passes) (none_fail t rows none)
    all)

change_found_by : {R : Type 0} (p q : R → Bool) (change : R → R) (row : R) (rows : List R)
    → (q row ≡ true) ⊎ (q row ≡ false)
    → ((one : R) → find q (row ∷ rows) ≡ Some one → p one ≡ true → p (change one) ≡ true)
    → p row ≡ true → list_all p rows ≡ true
    → (((one : R) → find q rows ≡ Some one → p one ≡ true → p (change one) ≡ true)
    → list_all p (change_row q change rows) ≡ true)
    → list_all p (change_row q change (row ∷ rows)) ≡ true
change_found_by p q change row rows (inl here) kept first all others =
    ap (list_all p) (change_here q change row rows here)
    ∙ and_from _ _ (kept row (find_here q row rows here) first) all
change_found_by p q change row rows (inr later) kept first all others =
    ap (list_all p) (change_later q change row rows later)
    ∙ and_from _ _ first
    (others (λ one is passes. kept one (find_later q row rows later ∙ is) passes))

-- where the change keeps the test of the row that is found, all pass
pub all_change_found : {R : Type 0} (p q : R → Bool) (change : R → R) (rows : List R)
    → ((row : R) → find q rows ≡ Some row → p row ≡ true → p (change row) ≡ true)
    → IsTrue (list_all p rows) → IsTrue (list_all p (change_row q change rows))
all_change_found p q change [] kept all = refl
all_change_found p q change (row ∷ rows) kept all =
    let parts : (p row ≡ true) × (list_all p rows ≡ true) = and_parts _ _ all in
    change_found_by p q change row rows (cases_Bool (q row)) kept parts.0 parts.1
    (λ later. all_change_found p q change rows later parts.1)

pinned_by : {R : Type 0} (p r q : R → Bool) (row : R) (rows : List R)
    → (q row ≡ true) ⊎ (q row ≡ false) → count_by q (row ∷ rows) ≤ 1
    → ((one : R) → find q (row ∷ rows) ≡ Some one → p one ≡ true → r one ≡ true)
    → ((one : R) → q one ≡ false → p one ≡ true → r one ≡ true) → p row ≡ true
    → list_all p rows ≡ true
    → (count_by q rows ≤ 1 → ((one : R) → find q rows ≡ Some one → p one ≡ true → r one ≡ true)
    → list_all r rows ≡ true) → list_all r (row ∷ rows) ≡ true
pinned_by {R = R} p r q row rows (inl here) once found others first all more =
    let sum : count_by q (row ∷ rows) ≡ one_if (q row) + count_by q rows = count_cons q row rows in
    let one : one_if (q row) ≡ 1 = one_true (q row) here in
    and_from _ _ (found row (find_here q row rows here) first)
    (all_by_two (λ (other : R). not (q other)) p r rows
    (λ other fails passes. others other (not-true (q other) fails) passes)
    (none_fail q rows (omega arith)) all)
pinned_by p r q row rows (inr later) once found others first all more =
    let sum : count_by q (row ∷ rows) ≡ one_if (q row) + count_by q rows = count_cons q row rows in
    and_from _ _ (others row later first)
    (more (omega arith) (λ one is passes. found one (find_later q row rows later ∙ is) passes))

-- where one row passes a test at most, what is known of the one found and of the others is known
-- of all
pub all_pinned : {R : Type 0} (p r q : R → Bool) (rows : List R) → count_by q rows ≤ 1
    → ((row : R) → find q rows ≡ Some row → p row ≡ true → r row ≡ true)
    → ((row : R) → q row ≡ false → p row ≡ true → r row ≡ true) → IsTrue (list_all p rows)
    → IsTrue (list_all r rows)
all_pinned p r q [] once found others all = refl
all_pinned p r q (row ∷ rows) once found others all =
    let parts : (p row ≡ true) × (list_all p rows ≡ true) = and_parts _ _ all in
    pinned_by p r q row rows (cases_Bool (q row)) once found others parts.0 parts.1
    (λ few later. all_pinned p r q rows few later others parts.1)

count_where_by : {R : Type 0} (p q : R → Bool) (change : R → R) (found : Option R)
    → ((row : R) → found ≡ Some row → p (change row) ≡ p row)
    → count_found p (option_map change found) ≡ count_found p found
count_where_by p q change None kept = refl
count_where_by p q change (Some row) kept = ap one_if (kept row refl)

-- a change that keeps the test of the rows that it may meet keeps the count
pub count_change_where : {R : Type 0} (p q : R → Bool) (change : R → R) (rows : List R)
    → ((row : R) → q row ≡ true → p (change row) ≡ p row)
    → count_by p (change_row q change rows) ≡ count_by p rows
count_change_where p q change rows kept =
    let sum : count_by p (change_row q change rows) + count_found p (find q rows)
    ≡ count_by p rows + count_found p (option_map change (find q rows)) =
    count_change p q change rows in
    let same : count_found p (option_map change (find q rows)) ≡ count_found p (find q rows) =
    count_where_by p q change (find q rows) (λ row is. kept row (found_passes q rows row is)) in
    omega arith
