-- Facts about any list that the others rest on.
use Rattle.std.proofs.Common.{◌≡◌, ℕ, zero, suc, ◌+◌, ◌<◌, ◌≤◌}
use Rattle.std.proofs.Common.{Bool, not, List, [], ◌∷◌, ◌++◌, Option, None}
use Rattle.std.proofs.Common.{Some, length, get_or, set, take, drop, count_by, filter_map}
use Rattle.std.proofs.Common.{refl, sym, ap, ◌∙◌, arith, inl, inr, cond, true}
use Rattle.std.proofs.Common.{false, ltb, is_some, replicate, zero-add, subst}
use Rattle.std.specs.Prelude.{is_none, position, IsSomeAnd}
use Rattle.std.specs.List.{position_or_len, cons_option, remove}
use Rattle.std.specs.List.Sorted.{IsNonDecreasingBy}
use Rattle.std.specs.Option.{option_map}
use Rattle.std.proofs.lemmas.Bool.{cases_Bool, cases_lt, lt-ltb, le-ltb, false≢true}
use Rattle.std.proofs.lemmas.List.Sums.{sum_by-cons, sum_by-set, sum_by-take-le, count_by_more_yes}
use Rattle.std.proofs.lemmas.List.Edits.{get_or-remove_below, get_or-remove_above, length-remove}
use Rattle.std.proofs.lemmas.List.{get_or-replicate, get_or_past, length-replicate}
use Rattle.std.proofs.lemmas.List.{take-append-drop, take-set, drop-set}

-- a list that is written at one place is what stands before, what was written and what stands
-- behind
pub set-pieces : {X : Type 0} (xs : List X) (i : ℕ) (y : X) → i < length xs → set xs i y ≡ take i xs ++ y ∷ drop (i + 1) xs
set-pieces xs i y within = sym (take-append-drop i (set xs i y)) ∙ rw (take-set, drop-set xs i y within) refl

-- a filter keeps no more than there is
pub length-filter_map-le : {X Y : Type 0} (f : X → Option Y) (xs : List X) → length (filter_map f xs) ≤ length xs
length-filter_map-le f [] = omega arith
length-filter_map-le f (x ∷ xs) = kept (filter_map f xs) (length xs) (f x) (length-filter_map-le f xs)
  where
    kept : {Y : Type 0} (ys : List Y) (n : ℕ) (o : Option Y) → length ys ≤ n → length (cons_option o ys) ≤ suc n
    kept ys n None le = omega arith
    kept ys n (Some y) le = omega arith

-- where fewer pass than there are, one fails
pub position_or_len-lt-length : {X : Type 0} (p : X → Bool) (xs : List X) → count_by p xs < length xs → position_or_len (λ x. not (p x)) xs < length xs
position_or_len-lt-length p [] few = few
position_or_len-lt-length p (x ∷ xs) few =
    elim (cases_Bool (p x)) [
      | inl passes ↦
          let count : count_by p (x ∷ xs) ≡ 1 + count_by p xs = sum_by-cons (λ y. cond (p y) 1 0) x xs ∙ rw passes refl in
          rw passes (omega (arith, position_or_len-lt-length p xs (omega (arith, count))))
      | inr fails ↦ rw fails (omega arith)
    ]

-- where fewer have a value than there are, one is found that has none
pub position_within : {X : Type 0} (xs : List (Option X)) → count_by is_some xs < length xs → position is_none xs ≡ Some (position_or_len is_none xs)
position_within xs few = rw (lt-ltb _ _ (position_or_len-lt-length is_some xs few)) refl

-- one is found exactly where more than none pass
pub position-count : {X : Type 0} (p : X → Bool) (xs : List X) → ltb (position_or_len p xs) (length xs) ≡ ltb 0 (count_by p xs)
position-count p [] = refl
position-count p (x ∷ xs) =
    let count : count_by p (x ∷ xs) ≡ cond (p x) 1 0 + count_by p xs = sum_by-cons (λ y. cond (p y) 1 0) x xs in
    elim (cases_Bool (p x)) [
      | inl passes ↦ rw (count, passes) (lt-ltb 0 (suc (length xs)) (omega arith) ∙ sym (lt-ltb 0 (1 + count_by p xs) (omega arith)))
      | inr fails ↦ rw (count, fails) (next (position_or_len p xs) (length xs) ∙ position-count p xs ∙ sym (ap (ltb 0) (zero-add (count_by p xs))))
    ]
  where
    next : (m n : ℕ) → ltb (1 + m) (suc n) ≡ ltb m n
    next m n =
        elim (cases_lt m n) [
          | inl below ↦ lt-ltb (1 + m) (suc n) (omega arith) ∙ sym (lt-ltb m n below)
          | inr above ↦ le-ltb (1 + m) (suc n) (omega arith) ∙ sym (le-ltb m n above)
        ]

-- what has a value and what has none is all there is
pub nones-somes : {X : Type 0} (xs : List (Option X)) → count_by is_none xs + count_by is_some xs ≡ length xs
nones-somes [] = refl
nones-somes (None ∷ xs) = omega (arith, nones-somes xs, sum_by-cons (λ y. cond (is_none y) 1 0) None xs, sum_by-cons (λ y. cond (is_some y) 1 0) None xs)
nones-somes (Some x ∷ xs) = omega (arith, nones-somes xs, sum_by-cons (λ y. cond (is_none y) 1 0) (Some x) xs, sum_by-cons (λ y. cond (is_some y) 1 0) (Some x) xs)

cond-is_some : {X : Type 0} (b : Bool) (x : X) → is_some (cond b (Some x) None) ≡ b
cond-is_some true x = refl
cond-is_some false x = refl

-- one without a value is found exactly where fewer have one than there are
pub found-few : {X : Type 0} (xs : List (Option X)) → is_some (position is_none xs) ≡ ltb (count_by is_some xs) (length xs)
found-few xs =
    cond-is_some (ltb (position_or_len is_none xs) (length xs)) (position_or_len is_none xs)
    ∙ position-count is_none xs
    ∙ elim (cases_lt (count_by is_some xs) (length xs)) [
      | inl few ↦ lt-ltb 0 (count_by is_none xs) (omega (arith, nones-somes xs)) ∙ sym (lt-ltb (count_by is_some xs) (length xs) few)
      | inr all ↦ le-ltb 0 (count_by is_none xs) (omega (arith, nones-somes xs)) ∙ sym (le-ltb (count_by is_some xs) (length xs) all)
    ]

-- a count where one element is written
pub count_by-set : {X : Type 0} (p : X → Bool) (xs : List X) (i : ℕ) (y d : X) → i < length xs
    → count_by p (set xs i y) + cond (p (get_or xs i d)) 1 0 ≡ count_by p xs + cond (p y) 1 0
count_by-set p xs i y d within = sum_by-set (λ x. cond (p x) 1 0) xs i y d within

-- every element of a list of copies is that copy, and so is the default
pub replicate-at : {X : Type 0} (x : X) (count : ℕ) (xs : List X) → xs ≡ replicate count x → (k : ℕ) → get_or xs k x ≡ x
replicate-at x count xs is k =
    ap (λ ys. get_or ys k x) is ∙
    elim (cases_lt k count) [
      | inl within ↦ get_or-replicate count k x x within
      | inr past ↦ get_or_past (replicate count x) k x (omega (arith, length-replicate count x))
    ]

-- what has a value stands in the list
pub some-within : {X : Type 0} (P : X → Type 0) (xs : List (Option X)) (i : ℕ) → IsSomeAnd (get_or xs i None) P → i < length xs
some-within {X} P xs i some =
    elim (cases_lt i (length xs)) [
      | inl within ↦ within
      | inr past ↦ absurd (subst (λ (o : Option X). IsSomeAnd o P) (get_or_past xs i None past) some)
    ]

pub is_some-within : {X : Type 0} (xs : List (Option X)) (i : ℕ) → is_some (get_or xs i None) ≡ true → i < length xs
is_some-within xs i some =
    elim (cases_lt i (length xs)) [
      | inl within ↦ within
      | inr past ↦ absurd (false≢true (sym (ap is_some (get_or_past xs i None past)) ∙ some))
    ]

-- where one passes, more than none do
pub count_by-passes : {X : Type 0} (p : X → Bool) (xs : List X) (i : ℕ) (d : X) → i < length xs → p (get_or xs i d) ≡ true → 0 < count_by p xs
count_by-passes p xs i d within passes = omega (arith, count_by_more_yes p xs i d within passes, sum_by-take-le (λ x. cond (p x) 1 0) xs (i + 1))

-- a list that rises with one element less still rises
pub IsNonDecreasingBy-remove : {X : Type 0} (n : X → ℕ) (xs : List X) (at : ℕ) → IsNonDecreasingBy n xs → at < length xs → IsNonDecreasingBy n (remove xs at)
IsNonDecreasingBy-remove n xs at up there i j d ordered within =
    let below = get_or-remove_below xs at d in
    let above = get_or-remove_above xs at d in
    let fewer = length-remove xs at there in
    elim (cases_lt i at) [
      | inl i_below ↦
          elim (cases_lt j at) [
            | inl j_below ↦ omega (arith, ap n (below i i_below there), ap n (below j j_below there), up i j d ordered (omega arith))
            | inr j_past ↦ omega (arith, ap n (below i i_below there), ap n (above j j_past there), up i (j + 1) d (omega arith) (omega arith))
          ]
      | inr i_past ↦
          omega (arith, ap n (above i i_past there), ap n (above j (omega arith) there), up (i + 1) (j + 1) d (omega arith) (omega arith))
    ]

-- what is changed where it stands, and what is taken away
pub set_map-here : {X : Type 0} (f : X → X) (xs : List (Option X)) (i : ℕ) → get_or (set xs i (option_map f (get_or xs i None))) i None ≡ option_map f (get_or xs i None)
set_map-here f [] i = refl
set_map-here f (x ∷ xs) zero = refl
set_map-here f (x ∷ xs) (suc i) = set_map-here f xs i

pub set_none-here : {X : Type 0} (xs : List (Option X)) (i : ℕ) → get_or (set xs i None) i None ≡ None
set_none-here [] i = refl
set_none-here (x ∷ xs) zero = refl
set_none-here (x ∷ xs) (suc i) = set_none-here xs i
