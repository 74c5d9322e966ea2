-- What a search finds, and sums over the first numbers.
use Rattle.std.proofs.Common.{◌≡◌, ◌==◌, ◌+◌, ◌<◌, ◌≤◌, ◌∙◌, ℕ, zero, suc, Bool, true, false, List, [], ◌∷◌, ◌⊎◌, inl, inr, refl, subst, sym, ap, arith, Option, Some, find, is_some, if◌then◌else◌}
use Rattle.std.proofs.lemmas.Bool.Decides.{eqb_tells, nat_tests}
use Rattle.gh_events.specs.Config.{put}
use Rattle.gh_events.specs.References.{total}

passes_by : {X : Type 0} (p : X → Bool) (y x : X) (others : Option X) (here : Bool) → p y ≡ here
    → (others ≡ Some x → p x ≡ true) → (if here then Some y else others) ≡ Some x → p x ≡ true
passes_by p y x others true passes rest is = let same : y ≡ x = cc in ap p (sym same) ∙ passes
passes_by p y x others false passes rest is = rest is

-- what is found passes the test
pub found_passes : {X : Type 0} (p : X → Bool) (xs : List X) (x : X) → find p xs ≡ Some x
    → p x ≡ true
found_passes p [] x is = absurd (let never : ⊥ = cc in never)
found_passes p (y ∷ xs) x is =
    passes_by p y x (find p xs) (p y) refl (found_passes p xs x) is

finds_by : {X : Type 0} (p q : X → Bool) (y x : X) (others also : Option X) (here there : Bool)
    → p y ≡ here → q y ≡ there → (others ≡ Some x → is_some also ≡ true)
    → (if here then Some y else others) ≡ Some x → q x ≡ true
    → is_some (if there then Some y else also) ≡ true
finds_by p q y x others also here true first second rest is passes = refl
finds_by p q y x others also true false first second rest is passes =
    let same : y ≡ x = cc in
    let both : q y ≡ true = ap q same ∙ passes in
    absurd (let never : ⊥ = cc in never)
finds_by p q y x others also false false first second rest is passes = rest is

-- where one is found that passes another test, that test finds one
pub finds : {X : Type 0} (p q : X → Bool) (xs : List X) (x : X) → find p xs ≡ Some x → q x ≡ true
    → is_some (find q xs) ≡ true
finds p q [] x is passes = absurd (let never : ⊥ = cc in never)
finds p q (y ∷ xs) x is passes =
    finds_by p q y x (find p xs) (find q xs) (p y) (q y) refl refl (λ later. finds p q xs x later passes) is passes

-- a number is itself
pub same_number : (n : ℕ) → (n == n) ≡ true
same_number n = grind (arith, nat_tests)

-- a sum of nothing
pub total_none : (n : ℕ) (amount : ℕ → ℕ) → ((i : ℕ) → amount i ≡ 0) → total n amount ≡ 0
unfolding total
total_none zero amount none = refl
total_none (suc n) amount none = omega (arith, total_none n amount none, none n)

-- a value that was put, and the others
pub put_here : {X : Type 0} (values : ℕ → X) (at : ℕ) (value : X) → put values at value at ≡ value
put_here values at value = rw (same_number at) refl

pub put_other : {X : Type 0} (values : ℕ → X) (at : ℕ) (value : X) (n : ℕ) → (n == at) ≡ false
    → put values at value n ≡ values n
put_other values at value n differs = rw differs refl

module _ {X : Type 0} (values : ℕ → X) (at : ℕ) (value : X) (amount : X → ℕ) where
  -- a sum doesn't see a value that is put behind it
  pub total_beyond : (k : ℕ) → k ≤ at
      → total k (λ n. amount (put values at value n)) ≡ total k (λ n. amount (values n))
  unfolding total
  total_beyond zero beyond = refl
  total_beyond (suc k) beyond =
      let apart : (k == at) ≡ false = grind (arith, nat_tests) in
      let same : amount (put values at value k) ≡ amount (values k) = ap amount (put_other values at value k apart) in
      omega (arith, total_beyond k (omega arith), same)

  put_within : (k : ℕ) → at < suc k → (k ≡ at) ⊎ ((k == at) ≡ false)
      → (at < k → total k (λ n. amount (put values at value n)) + amount (values at) ≡ total k (λ n. amount (values n)) + amount value)
      → total (suc k) (λ n. amount (put values at value n)) + amount (values at)
      ≡ total (suc k) (λ n. amount (values n)) + amount value
  unfolding total
  put_within k within (inl same) rest =
      let new : amount (put values at value k) ≡ amount value = ap amount (subst (λ (n : ℕ). put values at value n ≡ value) (sym same) (put_here values at value)) in
      let old : amount (values at) ≡ amount (values k) = ap (λ (n : ℕ). amount (values n)) (sym same) in
      let before : total k (λ n. amount (put values at value n)) ≡ total k (λ n. amount (values n)) = total_beyond k (omega (arith, same)) in
      omega arith
  put_within k within (inr apart) rest =
      let below : at < k = grind (arith, nat_tests) in
      let others : amount (put values at value k) ≡ amount (values k) = ap amount (put_other values at value k apart) in
      let before : total k (λ n. amount (put values at value n)) + amount (values at) ≡ total k (λ n. amount (values n)) + amount value = rest below in
      omega arith

  number_tells : (k : ℕ) → (k ≡ at) ⊎ ((k == at) ≡ false)
  number_tells k =
      elim (eqb_tells k at) as (λ _. (k ≡ at) ⊎ ((k == at) ≡ false)) [
        | inl same ↦ inl same.1
        | inr differs ↦ inr differs.0
      ]

  -- a sum behind a value that is put: the new one in place of the old one
  pub total_put : (k : ℕ) → at < k
      → total k (λ n. amount (put values at value n)) + amount (values at)
      ≡ total k (λ n. amount (values n)) + amount value
  total_put zero within = absurd (omega arith)
  total_put (suc k) within = put_within k within (number_tells k) (total_put k)
