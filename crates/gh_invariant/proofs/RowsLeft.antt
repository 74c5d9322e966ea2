-- How many rows pass a test, which one is found, and whether all pass, once the rows that pass another
-- test are taken away.
use Rattle.std.proofs.Common.{◌≡◌, ◌+◌, ◌≤◌, ◌∙◌, Bool, true, false, List, [], ◌∷◌, ◌⊎◌, inl, inr, refl, sym, ap, arith, Option, Some, None, IsTrue, find, if◌then◌else◌}
use Rattle.std.specs.Prelude.{count_by}
use Rattle.std.specs.List.{list_all}
use Rattle.std.proofs.lemmas.Bool.{cases_Bool, and_parts, and_from}
use Rattle.gh_model.specs.QueueCalls.{one_if}
use Rattle.gh_model.specs.Changes.{without}
use Rattle.gh_invariant.proofs.Counting.{one_true, one_false, count_found, count_cons, find_here, find_later, without_here, without_later, unfound}

without_none_by : {R : Type 0} (q : R → Bool) (row : R) (rows : List R)
    → (q row ≡ true) ⊎ (q row ≡ false) → count_by q (row ∷ rows) ≡ 0
    → (count_by q rows ≡ 0 → without q rows ≡ rows) → without q (row ∷ rows) ≡ row ∷ rows
without_none_by q row rows (inl here) none others =
    let all : count_by q (row ∷ rows) ≡ one_if (q row) + count_by q rows = count_cons q row rows in
    let one : one_if (q row) ≡ 1 = one_true (q row) here in
    absurd (omega arith)
without_none_by {R = R} q row rows (inr later) none others =
    let all : count_by q (row ∷ rows) ≡ one_if (q row) + count_by q rows = count_cons q row rows in
    without_later q row rows later ∙ ap (λ (rest : List R). row ∷ rest) (others (omega arith))

-- where none passes, all stay
pub without_none : {R : Type 0} (q : R → Bool) (rows : List R) → count_by q rows ≡ 0
    → without q rows ≡ rows
without_none q [] none = refl
without_none q (row ∷ rows) none =
    without_none_by q row rows (cases_Bool (q row)) none (λ rest. without_none q rows rest)

count_without_by : {R : Type 0} (p q : R → Bool) (row : R) (rows : List R)
    → (q row ≡ true) ⊎ (q row ≡ false) → count_by q (row ∷ rows) ≤ 1
    → (count_by q rows ≤ 1 → count_by p (without q rows) + count_found p (find q rows) ≡ count_by p rows)
    → count_by p (without q (row ∷ rows)) + count_found p (find q (row ∷ rows))
    ≡ count_by p (row ∷ rows)
count_without_by p q row rows (inl here) once others =
    let all : count_by q (row ∷ rows) ≡ one_if (q row) + count_by q rows = count_cons q row rows in
    let one : one_if (q row) ≡ 1 = one_true (q row) here in
    let left : without q (row ∷ rows) ≡ rows =
    without_here q row rows here ∙ without_none q rows (omega arith) in
    let new : count_by p (without q (row ∷ rows)) ≡ count_by p rows = ap (count_by p) left in
    let old : count_by p (row ∷ rows) ≡ one_if (p row) + count_by p rows = count_cons p row rows in
    let lost : count_found p (find q (row ∷ rows)) ≡ one_if (p row) =
    ap (count_found p) (find_here q row rows here) in
    omega arith
count_without_by p q row rows (inr later) once others =
    let all : count_by q (row ∷ rows) ≡ one_if (q row) + count_by q rows = count_cons q row rows in
    let rest : count_by p (without q rows) + count_found p (find q rows) ≡ count_by p rows =
    others (omega arith) in
    let new : count_by p (without q (row ∷ rows)) ≡ one_if (p row) + count_by p (without q rows) =
    ap (count_by p) (without_later q row rows later) ∙ count_cons p row (without q rows) in
    let old : count_by p (row ∷ rows) ≡ one_if (p row) + count_by p rows = count_cons p row rows in
    let lost : count_found p (find q (row ∷ rows)) ≡ count_found p (find q rows) =
    ap (count_found p) (find_later q row rows later) in
    omega arith

-- where one passes at most, the count gives up what that row counted
pub count_without : {R : Type 0} (p q : R → Bool) (rows : List R) → count_by q rows ≤ 1
    → count_by p (without q rows) + count_found p (find q rows) ≡ count_by p rows
count_without p q [] once = refl
count_without p q (row ∷ rows) once =
    count_without_by p q row rows (cases_Bool (q row)) once (λ rest. count_without p q rows rest)

count_left_by : {R : Type 0} (p q : R → Bool) (row : R) (rows : List R)
    → (q row ≡ true) ⊎ (q row ≡ false) → (q row ≡ true → p row ≡ false)
    → count_by p (without q rows) ≡ count_by p rows
    → count_by p (without q (row ∷ rows)) ≡ count_by p (row ∷ rows)
count_left_by p q row rows (inl here) apart others =
    let new : count_by p (without q (row ∷ rows)) ≡ count_by p (without q rows) =
    ap (count_by p) (without_here q row rows here) in
    let old : count_by p (row ∷ rows) ≡ one_if (p row) + count_by p rows = count_cons p row rows in
    let none : one_if (p row) ≡ 0 = one_false (p row) (apart here) in
    omega arith
count_left_by p q row rows (inr later) apart others =
    let new : count_by p (without q (row ∷ rows)) ≡ one_if (p row) + count_by p (without q rows) =
    ap (count_by p) (without_later q row rows later) ∙ count_cons p row (without q rows) in
    let old : count_by p (row ∷ rows) ≡ one_if (p row) + count_by p rows = count_cons p row rows in
    omega arith

-- the count of rows that all stay is as before
pub count_left : {R : Type 0} (p q : R → Bool) (rows : List R)
    → ((row : R) → q row ≡ true → p row ≡ false) → count_by p (without q rows) ≡ count_by p rows
count_left p q [] apart = refl
count_left p q (row ∷ rows) apart =
    count_left_by p q row rows (cases_Bool (q row)) (apart row) (count_left p q rows apart)

count_fewer_by : {R : Type 0} (p q : R → Bool) (row : R) (rows : List R)
    → (q row ≡ true) ⊎ (q row ≡ false) → count_by p (without q rows) ≤ count_by p rows
    → count_by p (without q (row ∷ rows)) ≤ count_by p (row ∷ rows)
count_fewer_by p q row rows (inl here) others =
    let new : count_by p (without q (row ∷ rows)) ≡ count_by p (without q rows) =
    ap (count_by p) (without_here q row rows here) in
    let old : count_by p (row ∷ rows) ≡ one_if (p row) + count_by p rows = count_cons p row rows in
    omega arith
count_fewer_by p q row rows (inr later) others =
    let new : count_by p (without q (row ∷ rows)) ≡ one_if (p row) + count_by p (without q rows) =
    ap (count_by p) (without_later q row rows later) ∙ count_cons p row (without q rows) in
    let old : count_by p (row ∷ rows) ≡ one_if (p row) + count_by p rows = count_cons p row rows in
    omega arith

-- no count rises
pub count_fewer : {R : Type 0} (p q : R → Bool) (rows : List R)
    → count_by p (without q rows) ≤ count_by p rows
count_fewer p q [] = let none : count_by p [] ≡ 0 = refl in omega arith
count_fewer p q (row ∷ rows) =
    count_fewer_by p q row rows (cases_Bool (q row)) (count_fewer p q rows)

count_gone_by : {R : Type 0} (p q : R → Bool) (row : R) (rows : List R)
    → (q row ≡ true) ⊎ (q row ≡ false) → (q row ≡ false → p row ≡ false)
    → count_by p (without q rows) ≡ 0 → count_by p (without q (row ∷ rows)) ≡ 0
count_gone_by p q row rows (inl here) within others =
    ap (count_by p) (without_here q row rows here) ∙ others
count_gone_by p q row rows (inr later) within others =
    let new : count_by p (without q (row ∷ rows)) ≡ one_if (p row) + count_by p (without q rows) =
    ap (count_by p) (without_later q row rows later) ∙ count_cons p row (without q rows) in
    let none : one_if (p row) ≡ 0 = one_false (p row) (within later) in
    omega arith

-- where all that are counted go, none is left
pub count_gone : {R : Type 0} (p q : R → Bool) (rows : List R)
    → ((row : R) → q row ≡ false → p row ≡ false) → count_by p (without q rows) ≡ 0
count_gone p q [] within = refl
count_gone p q (row ∷ rows) within =
    count_gone_by p q row rows (cases_Bool (q row)) (within row) (count_gone p q rows within)

-- and none is found
pub find_gone : {R : Type 0} (p q : R → Bool) (rows : List R)
    → ((row : R) → q row ≡ false → p row ≡ false) → find p (without q rows) ≡ None
find_gone p q rows within = unfound p (without q rows) (count_gone p q rows within)

find_left_by : {R : Type 0} (p q : R → Bool) (row : R) (rows : List R)
    → (q row ≡ true) ⊎ (q row ≡ false) → (q row ≡ true → p row ≡ false)
    → find p (without q rows) ≡ find p rows → find p (without q (row ∷ rows)) ≡ find p (row ∷ rows)
find_left_by p q row rows (inl here) apart others =
    ap (find p) (without_here q row rows here) ∙ others ∙ sym (find_later p row rows (apart here))
find_left_by {R = R} p q row rows (inr later) apart others =
    ap (find p) (without_later q row rows later) ∙ ap (λ (o : Option R). if p row then Some row else o) others

-- a row that stays is found as before
pub find_left : {R : Type 0} (p q : R → Bool) (rows : List R)
    → ((row : R) → q row ≡ true → p row ≡ false) → find p (without q rows) ≡ find p rows
find_left p q [] apart = refl
find_left p q (row ∷ rows) apart =
    find_left_by p q row rows (cases_Bool (q row)) (apart row) (find_left p q rows apart)

all_left_by : {R : Type 0} (p r q : R → Bool) (row : R) (rows : List R)
    → (q row ≡ true) ⊎ (q row ≡ false) → (q row ≡ false → p row ≡ true → r row ≡ true)
    → p row ≡ true → list_all r (without q rows) ≡ true → list_all r (without q (row ∷ rows)) ≡ true
all_left_by p r q row rows (inl here) follows first others =
    ap (list_all r) (without_here q row rows here) ∙ others
all_left_by p r q row rows (inr later) follows first others =
    ap (list_all r) (without_later q row rows later) ∙ and_from _ _ (follows later first) others

-- where a test follows from another for the rows that stay, all that stay pass it
pub all_left : {R : Type 0} (p r q : R → Bool) (rows : List R)
    → ((row : R) → q row ≡ false → IsTrue (p row) → IsTrue (r row)) → IsTrue (list_all p rows)
    → IsTrue (list_all r (without q rows))
all_left p r q [] follows all = refl
all_left p r q (row ∷ rows) follows all =
    let parts : (p row ≡ true) × (list_all p rows ≡ true) = and_parts _ _ all in
    all_left_by p r q row rows (cases_Bool (q row)) (follows row) parts.0 (all_left p r q rows follows parts.1)

-- all that stay pass what all passed
pub all_without : {R : Type 0} (p q : R → Bool) (rows : List R) → IsTrue (list_all p rows)
    → IsTrue (list_all p (without q rows))
all_without p q rows all = all_left p p q rows (λ row fails passes. passes) all
