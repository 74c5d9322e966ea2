-- Rows that are written through a borrow of all of them.
use Rattle.std.proofs.Common.{◌≡◌, ◌++◌, ◌∙◌, ℕ, Bool, List, Option, Some, length, take, drop, get_or, slice_get, slice_set, position, nat_lt, subst, sym, ap}
use Rattle.std.specs.List.{refill, position_or_len}
use Rattle.std.proofs.Math.Seq.{take-append_seam}
use Rattle.std.proofs.lemmas.List.{length-set}
use Rattle.std.proofs.lemmas.List.Quantifiers.{position-Some}
use Rattle.std.proofs.lemmas.Option.{cond_some, slice_get-get_or}
use Rattle.gh_model.specs.Rows.{change_row, put_row}

-- as many items as there are take the place of all
pub refilled : {X : Type 0} (xs ws : List X) → length ws ≡ length xs → refill (length xs) xs ws ≡ ws
refilled xs ws same =
    subst (λ (n : ℕ). take n (ws ++ drop (length ws) xs) ≡ ws) same (take-append_seam ws (drop (length ws) xs))

-- one of the rows is another
pub refilled_set : {X : Type 0} (xs view : List X) (at : ℕ) (row : X) → view ≡ xs → refill (length xs) xs (slice_set view at row) ≡ slice_set xs at row
refilled_set xs view at row same =
    ap (λ (v : List _). refill (length xs) xs (slice_set v at row)) same
    ∙ refilled xs (slice_set xs at row) (length-set xs at row)

-- the first row that passes the test is changed
pub row_changed : {X : Type 0} (test : X → Bool) (change : X → X) (xs view : List X) (at : ℕ) (d row : X)
    → view ≡ xs → position test xs ≡ Some at → row ≡ change (get_or view at d)
    → refill (length xs) xs (slice_set view at row) ≡ change_row test change xs
row_changed test change xs view at d row same found is =
    refilled_set xs view at row same
    ∙ ap (slice_set xs at) (is ∙ ap (λ (v : List _). change (get_or v at d)) same)
    ∙ sym (ap (λ (o : Option _). put_row change xs at o) (slice_get-get_or xs at d (position-Some test xs at d found).0))
    ∙ sym (ap (λ (n : ℕ). put_row change xs n (slice_get xs n)) (cond_some (nat_lt (position_or_len test xs) (length xs)) (position_or_len test xs) at found).1)
