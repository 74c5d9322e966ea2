-- Mapping rows that are apart have one row at most of the same pages, and name two objects each.
use Rattle.std.proofs.Common.{◌≡◌, ◌+◌, ◌≤◌, ◌<◌, ◌∙◌, ◌==◌, ℕ, Bool, true, false, not, List, [], ◌∷◌, ◌⊎◌, inl, inr, refl, arith, IsTrue}
use Rattle.std.specs.Prelude.{count_by}
use Rattle.std.specs.List.{list_all, list_any}
use Rattle.std.proofs.lemmas.Bool.{cases_Bool, and_parts, not-true, or_parts, ltb-true}
use Rattle.std.proofs.lemmas.Bool.Decides.{nat_tests}
use Rattle.gh_base.specs.declared.kind.Kind.TheVariants as kind
use Rattle.gh_model.specs.Boot.{overlaps}
use Rattle.gh_model.specs.Changes.{is_mapping}
use Rattle.gh_model.specs.QueueCalls.{one_if}
use Rattle.gh_model.specs.declared.rows.ObjectRow.{ObjectRow}
use Rattle.gh_model.specs.declared.rows.ExtentRow.{ExtentRow}
use Rattle.gh_model.specs.declared.rows.MappingRow.{MappingRow}
use Rattle.gh_invariant.specs.Lives.{lives_as, mapping_stands, are_apart, meets}
use Rattle.gh_invariant.proofs.Counting.{count_cons, one_true, one_false}
use Rattle.gh_invariant.proofs.Living.{kinds_apart}

uncounted_by : {R : Type 0} (p q : R → Bool) (row : R) → (p row ≡ true → q row ≡ true)
    → q row ≡ false → (p row ≡ true) ⊎ (p row ≡ false) → one_if (p row) ≡ 0
uncounted_by p q row follows fails (inl here) = absurd (let is : q row ≡ true = follows here in let never : ⊥ = cc in never)
uncounted_by p q row follows fails (inr past) = one_false (p row) past

-- where no row passes, none passes a test that it follows from
uncounted : {R : Type 0} (p q : R → Bool) (rows : List R)
    → ((row : R) → p row ≡ true → q row ≡ true) → list_any q rows ≡ false → count_by p rows ≡ 0
uncounted p q [] follows none = refl
uncounted p q (row ∷ rows) follows none =
    let parts : (q row ≡ false) × (list_any q rows ≡ false) = or_parts _ _ none in
    count_cons p row rows ∙ omega (arith, uncounted_by p q row (follows row) parts.0 (cases_Bool (p row)), uncounted p q rows follows parts.1)

module _ (objects : List ObjectRow) (extents : List ExtentRow) where
  -- a mapping row names an address space and an extent, which are two
  pub mapping_apart : (row : MappingRow) → IsTrue (mapping_stands objects extents row)
      → (row.space.0 == row.extent.0) ≡ false
  mapping_apart row stands =
      let space : lives_as objects row.space.0 kind.Space ≡ true =
      (and_parts _ _ (and_parts _ _ (and_parts _ _ (and_parts _ _ stands).0).0).0).0 in
      let extent : lives_as objects row.extent.0 kind.Extent ≡ true =
      (and_parts _ _ (and_parts _ _ (and_parts _ _ (and_parts _ _ stands).0).0).0).1 in
      kinds_apart objects row.space.0 row.extent.0 kind.Space kind.Extent space extent refl

  -- and has a page
  mapping_some : (row : MappingRow) → IsTrue (mapping_stands objects extents row) → 0 < row.count
  mapping_some row stands =
      ltb-true 0 row.count (and_parts _ _ (and_parts _ _ (and_parts _ _ stands).0).0).1

  module _ (space extent base offset count : ℕ) where
    same_pages : (row other : MappingRow) → 0 < row.count
        → is_mapping space extent base offset count row ≡ true
        → is_mapping space extent base offset count other ≡ true
        → overlaps row.space.0 row.base row.count other ≡ true
    same_pages row other some is also = grind (arith, nat_tests)

    once_by : (row : MappingRow) (rows : List MappingRow) → 0 < row.count → meets row rows ≡ false
        → count_by (is_mapping space extent base offset count) rows ≤ 1
        → (is_mapping space extent base offset count row ≡ true) ⊎ (is_mapping space extent base offset count row ≡ false)
        → count_by (is_mapping space extent base offset count) (row ∷ rows) ≤ 1
    once_by row rows some apart once (inl here) =
        let all : count_by (is_mapping space extent base offset count) (row ∷ rows)
        ≡ one_if (is_mapping space extent base offset count row) + count_by (is_mapping space extent base offset count) rows =
        count_cons (is_mapping space extent base offset count) row rows in
        let one : one_if (is_mapping space extent base offset count row) ≡ 1 = one_true _ here in
        let others : count_by (is_mapping space extent base offset count) rows ≡ 0 =
        uncounted (is_mapping space extent base offset count) (overlaps row.space.0 row.base row.count) rows (λ other also. same_pages row other some here also) apart in
        omega arith
    once_by row rows some apart once (inr past) =
        let all : count_by (is_mapping space extent base offset count) (row ∷ rows)
        ≡ one_if (is_mapping space extent base offset count row) + count_by (is_mapping space extent base offset count) rows =
        count_cons (is_mapping space extent base offset count) row rows in
        let none : one_if (is_mapping space extent base offset count row) ≡ 0 = one_false _ past in
        omega arith

    -- an unmap meets one row at most
    pub mapping_once : (rows : List MappingRow)
        → IsTrue (list_all (mapping_stands objects extents) rows) → IsTrue (are_apart rows)
        → count_by (is_mapping space extent base offset count) rows ≤ 1
    mapping_once [] stand apart =
        let none : count_by (is_mapping space extent base offset count) [] ≡ 0 = refl in omega arith
    mapping_once (row ∷ rows) stand apart =
        let stands : (mapping_stands objects extents row ≡ true) × (list_all (mapping_stands objects extents) rows ≡ true) =
        and_parts _ _ stand in
        let aparts : (not (meets row rows) ≡ true) × (are_apart rows ≡ true) =
        and_parts _ _ apart in
        once_by row rows (mapping_some row stands.0) (not-true (meets row rows) aparts.0) (mapping_once rows stands.1 aparts.1) (cases_Bool (is_mapping space extent base offset count row))
