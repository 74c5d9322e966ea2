-- Rows of a boot by their indices.
use Rattle.std.proofs.Common.{◌≡◌, ◌+◌, ◌≤◌, ◌∙◌, ℕ, suc, Bool, true, false, List, [], ◌∷◌, length, refl, sym, ap, arith, Some, None, find, map, slice_get, if◌then◌else◌}
use Rattle.std.specs.Prelude.{nat_lt}
use Rattle.std.specs.List.{position, position_or_len}
use Rattle.std.proofs.lemmas.Bool.Decides.{nat_tests}
use Rattle.std.proofs.lemmas.List.{length-map}
use Rattle.std.proofs.lemmas.Option.{slice_get_past}

module _ {X Y : Type 0} (f : X → Y) (test : Y → Bool) where
  -- an item behind the first
  item_after : (x : X) (xs : List X) (n : ℕ) → slice_get (x ∷ xs) (1 + n) ≡ slice_get xs n
  item_after x xs n = let next : 1 + n ≡ suc n = omega arith in ap (slice_get (x ∷ xs)) next

  -- what the first place of a number has is what a search finds
  first_by : (x : X) (xs : List X) (here : Bool) → test (f x) ≡ here
      → slice_get xs (position_or_len test (map f xs)) ≡ find (λ (y : X). test (f y)) xs
      → slice_get (x ∷ xs) (position_or_len test (map f (x ∷ xs))) ≡ find (λ (y : X). test (f y)) (x ∷ xs)
  first_by x xs true is rest = rw is refl
  first_by x xs false is rest = rw is (item_after x xs (position_or_len test (map f xs)) ∙ rest)

  first_found : (xs : List X) → slice_get xs (position_or_len test (map f xs)) ≡ find (λ (x : X). test (f x)) xs
  first_found [] = refl
  first_found (x ∷ xs) = first_by x xs (test (f x)) refl (first_found xs)

  pub found_some : (xs : List X) (k : ℕ) → position test (map f xs) ≡ Some k → slice_get xs k ≡ find (λ (x : X). test (f x)) xs
  found_some xs k is = by_less (nat_lt (position_or_len test (map f xs)) (length (map f xs))) is
    where
      by_less : (less : Bool) → (if less then Some (position_or_len test (map f xs)) else None) ≡ Some k
          → slice_get xs k ≡ find (λ (x : X). test (f x)) xs
      by_less true same = let first : position_or_len test (map f xs) ≡ k = cc in ap (slice_get xs) (sym first) ∙ first_found xs
      by_less false same = absurd (let never : ⊥ = cc in never)

  pub found_none : (xs : List X) → position test (map f xs) ≡ None → find (λ (x : X). test (f x)) xs ≡ None
  found_none xs is = by_less (nat_lt (position_or_len test (map f xs)) (length (map f xs))) refl is
    where
      by_less : (less : Bool) → nat_lt (position_or_len test (map f xs)) (length (map f xs)) ≡ less
          → (if less then Some (position_or_len test (map f xs)) else None) ≡ None → find (λ (x : X). test (f x)) xs ≡ None
      by_less true far same = absurd (let never : ⊥ = cc in never)
      by_less false far same =
          let past : length (map f xs) ≤ position_or_len test (map f xs) = grind (arith, nat_tests) in
          sym (first_found xs) ∙ slice_get_past xs (position_or_len test (map f xs)) (omega (arith, past, length-map xs f))
