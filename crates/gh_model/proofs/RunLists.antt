-- Lists that grow at their end, and lists of which one item is set.
use Rattle.std.proofs.Common.{◌≡◌, ◌≢◌, ◌+◌, ◌<◌, ℕ, zero, suc, Bool, List, [], ◌∷◌, ◌++◌, ◌⊎◌, inl, inr, length, take, refl, subst, sym, ap, arith, Option, Some, slice_get, if◌then◌else◌}
use Rattle.std.proofs.lemmas.List.{take-append-le}
use Rattle.std.proofs.Math.Seq.{take-append_seam}
use Rattle.std.proofs.lemmas.List.Sums.{fold-append}
use Rattle.std.specs.Prelude.{count_by, slice_set}
use Rattle.std.specs.List.{last_or}
use Rattle.gh_model.specs.Marks.{InTurn}

-- an item of a list that grew by one
pub snoc_cases : {X : Type 0} (xs : List X) (x y : X) (i : ℕ) → slice_get (xs ++ x ∷ []) i ≡ Some y → ((i < length xs) × (slice_get xs i ≡ Some y)) ⊎ ((i ≡ length xs) × (x ≡ y))
snoc_cases [] x y zero is = inr (refl, cc)
snoc_cases [] x y (suc i) is = absurd (let never : ⊥ = cc in never)
snoc_cases (a ∷ xs) x y zero is = inl (omega arith, is)
snoc_cases (a ∷ xs) x y (suc i) is =
    elim (snoc_cases xs x y i is) as (λ _. ((suc i < length (a ∷ xs)) × (slice_get (a ∷ xs) (suc i) ≡ Some y)) ⊎ ((suc i ≡ length (a ∷ xs)) × (x ≡ y)))
    [ inl before ↦ inl (let within : i < length xs = before.0 in omega arith, before.1) | inr last ↦ inr (let at : i ≡ length xs = last.0 in omega arith, last.1) ]

pub slice_get_left : {X : Type 0} (xs ys : List X) (i : ℕ) → i < length xs → slice_get (xs ++ ys) i ≡ slice_get xs i
slice_get_left [] ys i within = absurd (omega arith)
slice_get_left (x ∷ xs) ys zero within = refl
slice_get_left (x ∷ xs) ys (suc i) within = slice_get_left xs ys i (omega arith)

pub slice_get_seam : {X : Type 0} (xs : List X) (y : X) (ys : List X) → slice_get (xs ++ y ∷ ys) (length xs) ≡ Some y
slice_get_seam [] y ys = refl
slice_get_seam (x ∷ xs) y ys = slice_get_seam xs y ys

-- what holds of each item in turn, and of one more behind them
pub in_turn_snoc : {X : Type 0} (P : List X → X → Type 0) (xs : List X) (x : X) → InTurn P xs → P xs x → InTurn P (xs ++ x ∷ [])
in_turn_snoc {X} P xs x before last = λ (i : ℕ) (item : X) (is : slice_get (xs ++ x ∷ []) i ≡ Some item).
    elim (snoc_cases xs x item i is) as (λ _. P (take i (xs ++ x ∷ [])) item) [
      | inl earlier ↦ subst (λ (front : List X). P front item) (sym (take-append-le i xs (x ∷ []) (let within : i < length xs = earlier.0 in omega arith))) (before i item earlier.1)
      | inr here ↦ subst (λ (n : ℕ). P (take n (xs ++ x ∷ [])) item) (sym here.0) (subst (λ (front : List X). P front item) (sym (take-append_seam xs (x ∷ []))) (subst (λ (y : X). P xs y) here.1 last))
    ]

pub count_snoc : {X : Type 0} (p : X → Bool) (xs : List X) (x : X) → count_by p (xs ++ x ∷ []) ≡ count_by p xs + (if p x then 1 else 0)
count_snoc p xs x = fold-append _ 0 xs (x ∷ [])

pub last_or_snoc : {X : Type 0} (o : Option X) (xs : List X) (x : X) → last_or o (xs ++ x ∷ []) ≡ Some x
last_or_snoc o [] x = refl
last_or_snoc o (y ∷ xs) x = last_or_snoc (Some y) xs x

pub take_all : {X : Type 0} (xs : List X) → take (length xs) xs ≡ xs
take_all [] = refl
take_all (x ∷ xs) = ap (λ ys. x ∷ ys) (take_all xs)

pub no_item : {X : Type 0} (i : ℕ) (x : X) → slice_get {X = X} [] i ≡ Some x → ⊥
no_item i x is = cc

-- an item of a list of which one was set: it is the one that was set, or was there
pub set_cases : {X : Type 0} (xs : List X) (at i : ℕ) (x y z : X) → slice_get xs at ≡ Some x → slice_get (slice_set xs at y) i ≡ Some z → ((i ≡ at) × (y ≡ z)) ⊎ ((i ≢ at) × (slice_get xs i ≡ Some z))
set_cases [] at i x y z here is = absurd (no_item at x here)
set_cases (w ∷ xs) zero zero x y z here is = inl (refl, (let same : y ≡ z = cc in same))
set_cases (w ∷ xs) zero (suc i) x y z here is = inr ((λ same. omega arith), is)
set_cases (w ∷ xs) (suc at) zero x y z here is = inr ((λ same. omega arith), is)
set_cases (w ∷ xs) (suc at) (suc i) x y z here is =
    elim (set_cases xs at i x y z here is) as (λ _. ((suc i ≡ suc at) × (y ≡ z)) ⊎ ((suc i ≢ suc at) × (slice_get (w ∷ xs) (suc i) ≡ Some z)))
    [ inl same ↦ inl (ap (λ (n : ℕ). suc n) same.0, same.1) | inr other ↦ inr ((λ (same : suc i ≡ suc at). other.0 (omega arith)), other.1) ]
