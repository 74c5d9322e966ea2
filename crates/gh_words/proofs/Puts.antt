-- A table of which one item was set.
use Rattle.std.proofs.Common.{◌≡◌, ◌≢◌, ◌==◌, ◌+◌, ◌<◌, ◌∙◌, inl, inr, ℕ, zero, suc, false, List, [], ◌∷◌, length, refl, sym, ap, subst, arith, Some, slice_get, slice_set}
use Rattle.std.proofs.lemmas.Bool.Decides.{eqb_tells}
use Rattle.std.proofs.lemmas.List.{get_or-set_same, length-set}
use Rattle.std.proofs.lemmas.Option.{slice_get-get_or, slice_get_within}

-- the item that was set, and the others

set_here : {X : Type 0} (xs : List X) (at : ℕ) (x : X) → at < length xs → slice_get (slice_set xs at x) at ≡ Some x
set_here xs at x within =
    slice_get-get_or (slice_set xs at x) at x (omega (arith, length-set xs at x)) ∙ ap (λ (y : _). Some y) (get_or-set_same xs at x x within)

set_other : {X : Type 0} (xs : List X) (at n : ℕ) (x : X) → n ≢ at → slice_get (slice_set xs at x) n ≡ slice_get xs n
set_other [] at n x differs = refl
set_other (y ∷ xs) zero zero x differs = absurd (differs refl)
set_other (y ∷ xs) zero (suc n) x differs = refl
set_other (y ∷ xs) (suc at) zero x differs = refl
set_other (y ∷ xs) (suc at) (suc n) x differs = set_other xs at n x (λ same. differs (ap (λ (m : ℕ). suc m) same))

-- a fact at each place, where the one at a place is shown anew
pub each_place : (P : ℕ → Type 0) (at n : ℕ) → P at → ((n == at) ≡ false → P n) → P n
each_place P at n here others = elim (eqb_tells n at) as (λ _. P n) [
  | inl same ↦ subst P (sym same.1) here
  | inr differs ↦ others differs.0
]

-- a table behind a set has the new values
pub set_shows : {X : Type 0} (xs : List X) (at n : ℕ) (x old here now : X) → slice_get xs at ≡ Some old
    → slice_get xs n ≡ Some here → ((n ≡ at) → now ≡ x) → ((n == at) ≡ false → now ≡ here)
    → slice_get (slice_set xs at x) n ≡ Some now
set_shows xs at n x old here now there is same other = elim (eqb_tells n at) as (λ _. slice_get (slice_set xs at x) n ≡ Some now) [
  | inl equal ↦ ap (slice_get (slice_set xs at x)) equal.1 ∙ set_here xs at x (slice_get_within xs at old there) ∙ ap (λ (y : _). Some y) (sym (same equal.1))
  | inr differs ↦ set_other xs at n x differs.1 ∙ is ∙ ap (λ (y : _). Some y) (sym (other differs.0))
]

-- a table whose first items are those of a function, behind the next one
pub filled_more : {X : Type 0} (f : ℕ → X) (xs ys : List X) (at : ℕ) (x : X) → ys ≡ slice_set xs at x → slice_get ys at ≡ Some x → x ≡ f at
    → ((n : ℕ) → n < at → slice_get xs n ≡ Some (f n)) → (n : ℕ) → n < at + 1 → slice_get ys n ≡ Some (f n)
filled_more f xs ys at x set there is so_far n less = elim (eqb_tells n at) as (λ _. slice_get ys n ≡ Some (f n)) [
  | inl equal ↦ ap (slice_get ys) equal.1 ∙ there ∙ ap (λ (y : _). Some y) (is ∙ ap f (sym equal.1))
  | inr differs ↦ ap (λ (list : List _). slice_get list n) set ∙ set_other xs at n x differs.1 ∙ so_far n (omega (arith, less, differs.1))
]

-- an item that was read twice
pub one_item : {X : Type 0} (xs : List X) (n : ℕ) (x y : X) → slice_get xs n ≡ Some x → slice_get xs n ≡ Some y → x ≡ y
one_item xs n x y is also = cc
