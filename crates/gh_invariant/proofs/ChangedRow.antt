-- How many rows pass a test, which one is found, and whether all pass, once the first row that passes
-- another test is changed.
use Rattle.std.proofs.Common.{◌≡◌, ◌+◌, ◌∙◌, Bool, true, false, List, [], ◌∷◌, ◌⊎◌, inl, inr, refl, sym, ap, arith, Option, Some, None, IsTrue, find, option_map, if◌then◌else◌}
use Rattle.std.specs.Prelude.{count_by}
use Rattle.std.specs.List.{list_all}
use Rattle.std.proofs.lemmas.Bool.{cases_Bool, and_parts, and_from}
use Rattle.gh_model.specs.QueueCalls.{one_if}
use Rattle.gh_model.specs.Rows.{change_row}
use Rattle.gh_model.proofs.ChangedRows.{change_here, change_later}
use Rattle.gh_invariant.proofs.Counting.{count_found, count_cons, find_here, find_later}

count_change_by : {R : Type 0} (p q : R → Bool) (change : R → R) (row : R) (rows : List R)
    → (q row ≡ true) ⊎ (q row ≡ false)
    → count_by p (change_row q change rows) + count_found p (find q rows)
    ≡ count_by p rows + count_found p (option_map change (find q rows))
    → count_by p (change_row q change (row ∷ rows)) + count_found p (find q (row ∷ rows))
    ≡ count_by p (row ∷ rows) + count_found p (option_map change (find q (row ∷ rows)))
count_change_by {R = R} p q change row rows (inl here) others =
    let new : count_by p (change_row q change (row ∷ rows)) ≡ one_if (p (change row)) + count_by p rows =
    ap (count_by p) (change_here q change row rows here) ∙ count_cons p (change row) rows in
    let old : count_by p (row ∷ rows) ≡ one_if (p row) + count_by p rows = count_cons p row rows in
    let lost : count_found p (find q (row ∷ rows)) ≡ one_if (p row) =
    ap (count_found p) (find_here q row rows here) in
    let come : count_found p (option_map change (find q (row ∷ rows))) ≡ one_if (p (change row)) =
    ap (λ (o : Option R). count_found p (option_map change o)) (find_here q row rows here) in
    omega arith
count_change_by {R = R} p q change row rows (inr later) others =
    let new : count_by p (change_row q change (row ∷ rows)) ≡ one_if (p row) + count_by p (change_row q change rows) =
    ap (count_by p) (change_later q change row rows later) ∙ count_cons p row (change_row q change rows) in
    let old : count_by p (row ∷ rows) ≡ one_if (p row) + count_by p rows = count_cons p row rows in
    let lost : count_found p (find q (row ∷ rows)) ≡ count_found p (find q rows) =
    ap (count_found p) (find_later q row rows later) in
    let come : count_found p (option_map change (find q (row ∷ rows))) ≡ count_found p (option_map change (find q rows)) =
    ap (λ (o : Option R). count_found p (option_map change o)) (find_later q row rows later) in
    omega arith

-- the count gives up what the row counted, and gets what it counts once changed
pub count_change : {R : Type 0} (p q : R → Bool) (change : R → R) (rows : List R)
    → count_by p (change_row q change rows) + count_found p (find q rows)
    ≡ count_by p rows + count_found p (option_map change (find q rows))
count_change p q change [] = refl
count_change p q change (row ∷ rows) =
    count_change_by p q change row rows (cases_Bool (q row)) (count_change p q change rows)

count_found_kept : {R : Type 0} (p : R → Bool) (change : R → R) (found : Option R)
    → ((row : R) → p (change row) ≡ p row)
    → count_found p (option_map change found) ≡ count_found p found
count_found_kept p change None kept = refl
count_found_kept p change (Some row) kept = ap one_if (kept row)

-- a change that keeps the test keeps the count
pub count_change_kept : {R : Type 0} (p q : R → Bool) (change : R → R) (rows : List R)
    → ((row : R) → p (change row) ≡ p row) → count_by p (change_row q change rows) ≡ count_by p rows
count_change_kept p q change rows kept =
    let sum : count_by p (change_row q change rows) + count_found p (find q rows) ≡ count_by p rows + count_found p (option_map change (find q rows)) =
    count_change p q change rows in
    let same : count_found p (option_map change (find q rows)) ≡ count_found p (find q rows) =
    count_found_kept p change (find q rows) kept in
    omega arith

find_past_by : {R : Type 0} (p q : R → Bool) (change : R → R) (row : R) (rows : List R)
    → (q row ≡ true) ⊎ (q row ≡ false) → (q row ≡ true → p row ≡ false)
    → (q row ≡ true → p (change row) ≡ false) → find p (change_row q change rows) ≡ find p rows
    → find p (change_row q change (row ∷ rows)) ≡ find p (row ∷ rows)
find_past_by p q change row rows (inl here) old new others =
    ap (find p) (change_here q change row rows here) ∙ find_later p (change row) rows (new here) ∙ sym (find_later p row rows (old here))
find_past_by {R = R} p q change row rows (inr later) old new others =
    ap (find p) (change_later q change row rows later) ∙ ap (λ (o : Option R). if p row then Some row else o) others

-- other rows are found as before
pub find_past_change : {R : Type 0} (p q : R → Bool) (change : R → R) (rows : List R)
    → ((row : R) → q row ≡ true → p row ≡ false)
    → ((row : R) → q row ≡ true → p (change row) ≡ false)
    → find p (change_row q change rows) ≡ find p rows
find_past_change p q change [] old new = refl
find_past_change p q change (row ∷ rows) old new =
    find_past_by p q change row rows (cases_Bool (q row)) (old row) (new row) (find_past_change p q change rows old new)

seen_by : {R V : Type 0} (see : Option R → V) (p : R → Bool) (row other : R) (old new : List R) (here : Bool)
    → p row ≡ here → p other ≡ p row → see (Some other) ≡ see (Some row)
    → see (find p new) ≡ see (find p old) → see (find p (other ∷ new)) ≡ see (find p (row ∷ old))
seen_by see p row other old new true is same kept others =
    ap see (find_here p other new (same ∙ is)) ∙ kept ∙ sym (ap see (find_here p row old is))
seen_by see p row other old new false is same kept others =
    ap see (find_later p other new (same ∙ is)) ∙ others ∙ sym (ap see (find_later p row old is))

change_seen_by : {R V : Type 0} (see : Option R → V) (p q : R → Bool) (change : R → R) (row : R) (rows : List R)
    → (q row ≡ true) ⊎ (q row ≡ false) → p (change row) ≡ p row
    → see (Some (change row)) ≡ see (Some row)
    → see (find p (change_row q change rows)) ≡ see (find p rows)
    → see (find p (change_row q change (row ∷ rows))) ≡ see (find p (row ∷ rows))
change_seen_by {R = R} see p q change row rows (inl here) same kept others =
    ap (λ (rest : List R). see (find p rest)) (change_here q change row rows here) ∙ seen_by see p row (change row) rows rows (p row) refl same kept refl
change_seen_by {R = R} see p q change row rows (inr later) same kept others =
    ap (λ (rest : List R). see (find p rest)) (change_later q change row rows later) ∙ seen_by see p row row rows (change_row q change rows) (p row) refl refl refl others

-- what is seen of the row that is found stays where the change keeps the test and what is seen
pub find_change_seen : {R V : Type 0} (see : Option R → V) (p q : R → Bool) (change : R → R) (rows : List R)
    → ((row : R) → p (change row) ≡ p row) → ((row : R) → see (Some (change row)) ≡ see (Some row))
    → see (find p (change_row q change rows)) ≡ see (find p rows)
find_change_seen see p q change [] same kept = refl
find_change_seen see p q change (row ∷ rows) same kept =
    change_seen_by see p q change row rows (cases_Bool (q row)) (same row) (kept row) (find_change_seen see p q change rows same kept)

all_change_by : {R : Type 0} (p q : R → Bool) (change : R → R) (row : R) (rows : List R)
    → (q row ≡ true) ⊎ (q row ≡ false) → (q row ≡ true → p row ≡ true → p (change row) ≡ true)
    → p row ≡ true → list_all p rows ≡ true → list_all p (change_row q change rows) ≡ true
    → list_all p (change_row q change (row ∷ rows)) ≡ true
all_change_by p q change row rows (inl here) kept first all others =
    ap (list_all p) (change_here q change row rows here) ∙ and_from _ _ (kept here first) all
all_change_by p q change row rows (inr later) kept first all others =
    ap (list_all p) (change_later q change row rows later) ∙ and_from _ _ first others

-- where the change keeps the test, all pass
pub all_change : {R : Type 0} (p q : R → Bool) (change : R → R) (rows : List R)
    → ((row : R) → q row ≡ true → IsTrue (p row) → IsTrue (p (change row)))
    → IsTrue (list_all p rows) → IsTrue (list_all p (change_row q change rows))
all_change p q change [] kept all = refl
all_change p q change (row ∷ rows) kept all =
    let parts : (p row ≡ true) × (list_all p rows ≡ true) = and_parts _ _ all in
    all_change_by p q change row rows (cases_Bool (q row)) (kept row) parts.0 parts.1 (all_change p q change rows kept parts.1)
