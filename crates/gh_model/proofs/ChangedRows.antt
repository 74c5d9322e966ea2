-- A list in which the first row that passes a test is changed.
use Rattle.std.proofs.Common.{◌≡◌, ◌∙◌, ◌⊎◌, inl, inr, ℕ, suc, Bool, true, false, List, [], ◌∷◌, refl, subst, sym, ap, arith, Option, Some, None, find, option_map, slice_get}
use Rattle.std.specs.List.{position_or_len}
use Rattle.std.proofs.lemmas.Bool.{cases_Bool}
use Rattle.gh_model.specs.Rows.{change_row, put_row}

put_later : {R : Type 0} (change : R → R) (row : R) (rows : List R) (at : ℕ) (found : Option R)
    → put_row change (row ∷ rows) (suc at) found ≡ row ∷ put_row change rows at found
put_later change row rows at None = refl
put_later change row rows at (Some old) = refl

-- the first row is changed where it passes, and else one behind it
pub change_here : {R : Type 0} (test : R → Bool) (change : R → R) (row : R) (rows : List R) → test row ≡ true
    → change_row test change (row ∷ rows) ≡ change row ∷ rows
change_here test change row rows passes = rw passes refl

pub change_later : {R : Type 0} (test : R → Bool) (change : R → R) (row : R) (rows : List R) → test row ≡ false
    → change_row test change (row ∷ rows) ≡ row ∷ change_row test change rows
change_later test change row rows fails =
    let at : position_or_len test (row ∷ rows) ≡ suc (position_or_len test rows) = rw fails (omega arith) in
    subst (λ (n : ℕ). put_row change (row ∷ rows) n (slice_get (row ∷ rows) n) ≡ row ∷ change_row test change rows) (sym at)
    (put_later change row rows (position_or_len test rows) (slice_get rows (position_or_len test rows)))

find_changed_by : {R : Type 0} (test : R → Bool) (change : R → R) (row : R) (rows : List R)
    → (test row ≡ true) ⊎ (test row ≡ false) → test (change row) ≡ test row
    → find test (change_row test change rows) ≡ option_map change (find test rows)
    → find test (change_row test change (row ∷ rows)) ≡ option_map change (find test (row ∷ rows))
find_changed_by {R = R} test change row rows (inl here) kept others =
    let new : find test (change row ∷ rows) ≡ Some (change row) = rw (kept ∙ here) refl in
    let old : find test (row ∷ rows) ≡ Some row = rw here refl in
    ap (find test) (change_here test change row rows here) ∙ new ∙ sym (ap (option_map change) old)
find_changed_by {R = R} test change row rows (inr later) kept others =
    let new : find test (row ∷ change_row test change rows) ≡ find test (change_row test change rows) = rw later refl in
    let old : find test (row ∷ rows) ≡ find test rows = rw later refl in
    ap (find test) (change_later test change row rows later) ∙ new ∙ others ∙ sym (ap (option_map change) old)

-- a row that is found is found changed
pub find_changed : {R : Type 0} (test : R → Bool) (change : R → R) (rows : List R) → ((row : R) → test (change row) ≡ test row)
    → find test (change_row test change rows) ≡ option_map change (find test rows)
find_changed test change [] kept = refl
find_changed test change (row ∷ rows) kept =
    find_changed_by test change row rows (cases_Bool (test row)) (kept row) (find_changed test change rows kept)
