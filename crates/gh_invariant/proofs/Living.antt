-- What lives was made, and objects of two kinds are two.
use Rattle.std.proofs.Common.{◌≡◌, ◌≤◌, ◌<◌, ◌==◌, ℕ, false, List, inl, inr, refl, subst, sym, arith, Option, Some, None, IsTrue, find}
use Rattle.std.specs.Prelude.{count_by}
use Rattle.std.proofs.lemmas.Bool.{cases_lt}
use Rattle.std.proofs.lemmas.Bool.Decides.{eqb_tells, nat_tests}
use Rattle.gh_base.specs.Kind.{kind_number}
use Rattle.gh_base.specs.declared.kind.Kind.{Kind}
use Rattle.gh_model.specs.Boot.{is_of_kind}
use Rattle.gh_model.specs.Rows.{is_object}
use Rattle.gh_model.specs.declared.rows.ObjectRow.{ObjectRow}
use Rattle.gh_invariant.specs.Lives.{lives_as}
use Rattle.gh_invariant.specs.Valid.{ObjectsFit}
use Rattle.gh_invariant.proofs.Counting.{found_one}

two_kinds : (found : Option ObjectRow) (k j : Kind) → IsTrue (is_of_kind k found)
    → IsTrue (is_of_kind j found) → (kind_number k == kind_number j) ≡ false → ⊥
two_kinds None k j is also apart = let never : ⊥ = cc in never
two_kinds (Some row) k j is also apart = grind (arith, nat_tests)

module _ (objects : List ObjectRow) where
  -- objects of two kinds are two
  pub kinds_apart : (serial other : ℕ) (k j : Kind) → IsTrue (lives_as objects serial k)
      → IsTrue (lives_as objects other j) → (kind_number k == kind_number j) ≡ false
      → (serial == other) ≡ false
  kinds_apart serial other k j is also apart =
      elim (eqb_tells serial other) as (λ _. (serial == other) ≡ false) [
        | inl same ↦ absurd (two_kinds (find (is_object serial) objects) k j is (subst (λ (n : ℕ). IsTrue (lives_as objects n j)) (sym same.1) also) apart)
        | inr differs ↦ differs.0
      ]

  found_lives_by : (serial : ℕ) (k : Kind) (found : Option ObjectRow)
      → find (is_object serial) objects ≡ found → IsTrue (is_of_kind k found)
      → 1 ≤ count_by (is_object serial) objects
  found_lives_by serial k None is lives = absurd (let never : ⊥ = cc in never)
  found_lives_by serial k (Some row) is lives = found_one (is_object serial) objects row is

  -- what lives is counted
  pub lives_counted : (serial : ℕ) (k : Kind) → IsTrue (lives_as objects serial k)
      → 1 ≤ count_by (is_object serial) objects
  lives_counted serial k lives =
      found_lives_by serial k (find (is_object serial) objects) refl lives

  module _ (next_serial : ℕ) (fit : ObjectsFit next_serial objects) where
    -- what lives isn't serial 0
    pub lives_some : (serial : ℕ) (k : Kind) → IsTrue (lives_as objects serial k) → 0 < serial
    lives_some serial k lives =
        elim (eqb_tells serial 0) as (λ _. 0 < serial) [
          | inl none ↦ let one : 1 ≤ count_by (is_object 0) objects = lives_counted 0 k (subst (λ (n : ℕ). IsTrue (lives_as objects n k)) none.1 lives) in absurd (omega (arith, fit.none))
          | inr some ↦ omega (arith, some.1)
        ]

    -- and was made
    pub lives_made : (serial : ℕ) (k : Kind) → IsTrue (lives_as objects serial k)
        → serial < next_serial
    lives_made serial k lives =
        elim (cases_lt serial next_serial) as (λ _. serial < next_serial) [
          | inl made ↦ made
          | inr later ↦ let one : 1 ≤ count_by (is_object serial) objects = lives_counted serial k lives in absurd (omega (arith, fit.later serial later))
        ]
