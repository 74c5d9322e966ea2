-- A row that is found, once the first that passes the test is changed.
use Rattle.std.proofs.Common.{◌≡◌, not, ◌++◌, IsTrue, ◌∙◌, ◌⊎◌, inl, inr, Bool, true, false, List, [], ◌∷◌, refl, sym, ap, Option, Some, None, find}
use Rattle.std.proofs.Common.{option_map, length, position, get_or, slice_get, ℕ, nat_lt, if◌then◌else◌}
use Rattle.std.specs.Prelude.{count_by}
use Rattle.std.specs.List.{list_all, position_or_len}
use Rattle.std.specs.Option.{option_or}
use Rattle.std.proofs.lemmas.List.Folds.{find-append, find_at}
use Rattle.std.proofs.lemmas.Option.{cond_some, slice_get-get_or, slice_get_past}
use Rattle.std.proofs.lemmas.List.Quantifiers.{position-Some}
use Rattle.std.proofs.lemmas.Bool.{cases_Bool, ltb-false}
use Rattle.gh_invariant.proofs.Counting.{find_here, find_later, found_all, found_passes, none_fail}
use Rattle.gh_model.proofs.ChangedRows.{change_here, change_later}
use Rattle.gh_model.specs.Rows.{change_row}

passing_by : {R : Type 0} (test : R → Bool) (change : R → R) (row : R) (rows : List R)
    → (test row ≡ true) ⊎ (test row ≡ false) → (test row ≡ true → test (change row) ≡ true)
    → find test (change_row test change rows) ≡ option_map change (find test rows)
    → find test (change_row test change (row ∷ rows)) ≡ option_map change (find test (row ∷ rows))
passing_by test change row rows (inl here) kept others =
    ap (find test) (change_here test change row rows here)
    ∙ find_here test (change row) rows (kept here)
    ∙ sym (ap (option_map change) (find_here test row rows here))
passing_by test change row rows (inr later) kept others =
    ap (find test) (change_later test change row rows later)
    ∙ find_later test row (change_row test change rows) later
    ∙ others
    ∙ sym (ap (option_map change) (find_later test row rows later))

-- a row that is found is found changed, where the change leaves the rows that pass passing
pub find_changed_passing : {R : Type 0} (test : R → Bool) (change : R → R) (rows : List R)
    → ((row : R) → test row ≡ true → test (change row) ≡ true)
    → find test (change_row test change rows) ≡ option_map change (find test rows)
find_changed_passing test change [] kept = refl
find_changed_passing test change (row ∷ rows) kept =
    passing_by test change row rows (cases_Bool (test row)) (kept row)
    (find_changed_passing test change rows kept)

unplaced_by : {R : Type 0} (test : R → Bool) (rows : List R) (below : Bool)
    → nat_lt (position_or_len test rows) (length rows) ≡ below
    → (if below then Some (position_or_len test rows) else None) ≡ None → find test rows ≡ None
unplaced_by test rows true is none = absurd (let never : ⊥ = cc in never)
unplaced_by test rows false is none =
    find_at test rows ∙ slice_get_past rows (position_or_len test rows) (ltb-false _ _ is)

-- what has no place isn't found
pub unplaced_none : {R : Type 0} (test : R → Bool) (rows : List R) → position test rows ≡ None
    → find test rows ≡ None
unplaced_none test rows none =
    unplaced_by test rows (nat_lt (position_or_len test rows) (length rows)) refl none

-- what has a place is found there
pub placed_found : {R : Type 0} (test : R → Bool) (rows : List R) (at : ℕ) (d : R)
    → position test rows ≡ Some at → find test rows ≡ Some (get_or rows at d)
placed_found test rows at d is =
    find_at test rows
    ∙ ap (slice_get rows) (cond_some (nat_lt (position_or_len test rows) (length rows)) (position_or_len test rows) at is).1
    ∙ slice_get-get_or rows at d ((position-Some test rows at d is).0)

-- a row that is found among others, and not among those behind them, is found among all
pub find_beside : {R : Type 0} (test : R → Bool) (rows more : List R) → find test more ≡ None
    → find test (rows ++ more) ≡ find test rows
find_beside {R} test rows more none =
    find-append test rows more ∙ ap (λ (o : Option R). option_or (find test rows) o) none
    ∙ or_none (find test rows)
  where
    or_none : {R : Type 0} (o : Option R) → option_or o None ≡ o
    or_none None = refl
    or_none (Some row) = refl

-- and one that isn't found among the others is found among those behind them
pub find_behind : {R : Type 0} (test : R → Bool) (rows more : List R) → find test rows ≡ None
    → find test (rows ++ more) ≡ find test more
find_behind {R} test rows more none =
    find-append test rows more ∙ ap (λ (o : Option R). option_or o (find test more)) none

pub not_true : (b : Bool) → not b ≡ true → b ≡ false
not_true true is = sym is
not_true false is = refl

-- a row that is found fails a test that none is counted by
pub found_fails : {R : Type 0} (test none : R → Bool) (rows : List R) (row : R)
    → count_by none rows ≡ 0 → find test rows ≡ Some row → none row ≡ false
found_fails {R} test none rows row zero is =
    not_true (none row) (found_all test (λ (one : R). not (none one)) rows row (none_fail none rows zero) is)

-- where no row that passes one test passes another, none that all pass the first is found by it
pub none_found : {R : Type 0} (test all : R → Bool) (rows : List R) → IsTrue (list_all all rows)
    → ((row : R) → all row ≡ true → test row ≡ true → ⊥) → find test rows ≡ None
none_found {R} test all rows fit apart = found_by (find test rows) refl
  where
    found_by : (found : Option R) → find test rows ≡ found → found ≡ None
    found_by None is = refl
    found_by (Some row) is =
        absurd (apart row (found_all test all rows row fit is) (found_passes test rows row is))
