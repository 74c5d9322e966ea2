-- Sums over rows of which one is changed, or some go.
use Rattle.std.proofs.Common.{◌≡◌, ◌+◌, ◌≤◌, ◌∙◌, ℕ, Bool, true, false, List, [], ◌∷◌, Option, Some, None, not, map, filter, find, cond, get_or, slice_get, slice_set, sum_by, if◌then◌else◌, refl, subst, sym, ap, arith, All}
use Rattle.std.specs.List.{position_or_len}
use Rattle.std.proofs.lemmas.List.Elements.{All-filter, All-get_or, All-set}
use Rattle.std.proofs.lemmas.List.Folds.{find_at}
use Rattle.std.proofs.lemmas.List.Sums.{sum_by-cons, sum_by-set}
use Rattle.std.proofs.lemmas.Option.{get_or_from_slice_get, slice_get_within}
use Rattle.gh_model.specs.declared.rows.ObjectRow.{ObjectRow}
use Rattle.gh_model.specs.declared.rows.PartitionRow.{PartitionRow}
use Rattle.gh_model.specs.Changes.{without}
use Rattle.gh_model.specs.Rows.{change_row, put_row}
use Rattle.gh_model.specs.Units.{given_by, is_given_by, lives_in, object_cost, partition_quota, used_by}

-- what a row adds to a sum over the rows that pass a test
abbrev pub part : {X : Type 0} → (X → Bool) → (X → ℕ) → X → ℕ
part test f x = if test x then f x else 0

part_first : {X : Type 0} (f : X → ℕ) (x : X) (xs : List X) (here : Bool) → sum_by (λ n. n) (map f (cond here (x ∷ xs) xs)) ≡ (if here then f x else 0) + sum_by (λ n. n) (map f xs)
part_first f x xs true = sum_by-cons (λ n. n) (f x) (map f xs)
part_first f x xs false = omega arith

-- the sum over the rows that pass a test is that of all rows' parts
pub parts_sum : {X : Type 0} (test : X → Bool) (f : X → ℕ) (xs : List X) → sum_by (λ n. n) (map f (filter test xs)) ≡ sum_by (part test f) xs
parts_sum test f [] = refl
parts_sum test f (x ∷ xs) =
    part_first f x (filter test xs) (test x)
    ∙ ap (λ (n : ℕ). part test f x + n) (parts_sum test f xs)
    ∙ sym (sum_by-cons (part test f) x xs)

kept_first : {X : Type 0} (f : X → ℕ) (x : X) (xs : List X) (here : Bool) → sum_by f (cond here (x ∷ xs) xs) ≤ f x + sum_by f xs
kept_first f x xs true = omega (arith, sum_by-cons f x xs)
kept_first f x xs false = omega arith

-- fewer rows, no greater sum
pub sum_filter : {X : Type 0} (f : X → ℕ) (test : X → Bool) (xs : List X) → sum_by f (filter test xs) ≤ sum_by f xs
sum_filter f test [] = omega arith
sum_filter f test (x ∷ xs) =
    omega (arith, kept_first f x (filter test xs) (test x), sum_filter f test xs, sum_by-cons f x xs)

-- the first row that passes a test is changed: the sum grows by no more than the row's part
pub sum_change : {X : Type 0} (f : X → ℕ) (test : X → Bool) (change : X → X) (xs : List X) (more : ℕ)
    → ((row : X) → find test xs ≡ Some row → f (change row) ≤ f row + more)
    → sum_by f (change_row test change xs) ≤ sum_by f xs + more
sum_change {X} f test change xs more grows = by_row (slice_get xs (position_or_len test xs)) refl
  where
    by_row : (found : Option X) → slice_get xs (position_or_len test xs) ≡ found → sum_by f (put_row change xs (position_or_len test xs) found) ≤ sum_by f xs + more
    by_row None is = omega arith
    by_row (Some row) is =
        let here : f (get_or xs (position_or_len test xs) row) ≡ f row = ap f (get_or_from_slice_get xs (position_or_len test xs) row row is) in
        let set : sum_by f (slice_set xs (position_or_len test xs) (change row)) + f (get_or xs (position_or_len test xs) row) ≡ sum_by f xs + f (change row) = sum_by-set f xs (position_or_len test xs) (change row) row (slice_get_within xs (position_or_len test xs) row is) in
        let least : f (change row) ≤ f row + more = grows row (find_at test xs ∙ is) in
        omega arith

-- what holds of each row, and stays at the change, holds of each row behind it
pub all_change : {X : Type 0} (P : X → Type 0) (test : X → Bool) (change : X → X) (xs : List X) → ((row : X) → P row → P (change row)) → All P xs → All P (change_row test change xs)
all_change {X} P test change xs stays all = by_row (slice_get xs (position_or_len test xs)) refl
  where
    by_row : (found : Option X) → slice_get xs (position_or_len test xs) ≡ found → All P (put_row change xs (position_or_len test xs) found)
    by_row None is = all
    by_row (Some row) is =
        All-set P xs (position_or_len test xs) (change row)
        (stays row (subst P (get_or_from_slice_get xs (position_or_len test xs) row row is) (All-get_or P xs (position_or_len test xs) row (slice_get_within xs (position_or_len test xs) row is) all)))
        all

-- and it holds of those that stay where some go
pub all_without : {X : Type 0} (P : X → Type 0) (test : X → Bool) (xs : List X) → All P xs → All P (without test xs)
all_without P test xs all = All-filter (λ row. not (test row)) P xs all

-- and of one that is found
pub all_found : {X : Type 0} (P : X → Type 0) (test : X → Bool) (xs : List X) (row : X) → find test xs ≡ Some row → All P xs → P row
all_found P test xs row found all =
    let there : slice_get xs (position_or_len test xs) ≡ Some row = sym (find_at test xs) ∙ found in
    subst P (get_or_from_slice_get xs (position_or_len test xs) row row there)
    (All-get_or P xs (position_or_len test xs) row (slice_get_within xs (position_or_len test xs) row there) all)

-- units in use, and units given

pub used_change : (test : ObjectRow → Bool) (change : ObjectRow → ObjectRow) (objects : List ObjectRow) (p more : ℕ)
    → ((row : ObjectRow) → find test objects ≡ Some row → part (lives_in p) object_cost (change row) ≤ part (lives_in p) object_cost row + more)
    → used_by (change_row test change objects) p ≤ used_by objects p + more
used_change test change objects p more grows =
    omega (arith, parts_sum (lives_in p) object_cost objects, parts_sum (lives_in p) object_cost (change_row test change objects), sum_change (part (lives_in p) object_cost) test change objects more grows)

pub given_change : (test : PartitionRow → Bool) (change : PartitionRow → PartitionRow) (partitions : List PartitionRow) (p more : ℕ)
    → ((row : PartitionRow) → find test partitions ≡ Some row → part (is_given_by p) partition_quota (change row) ≤ part (is_given_by p) partition_quota row + more)
    → given_by (change_row test change partitions) p ≤ given_by partitions p + more
given_change test change partitions p more grows =
    omega (arith, parts_sum (is_given_by p) partition_quota partitions, parts_sum (is_given_by p) partition_quota (change_row test change partitions), sum_change (part (is_given_by p) partition_quota) test change partitions more grows)

pub used_without : (test : ObjectRow → Bool) (objects : List ObjectRow) (p : ℕ) → used_by (without test objects) p ≤ used_by objects p
used_without test objects p =
    omega (arith, parts_sum (lives_in p) object_cost objects, parts_sum (lives_in p) object_cost (without test objects), sum_filter (part (lives_in p) object_cost) (λ row. not (test row)) objects)

pub given_without : (test : PartitionRow → Bool) (partitions : List PartitionRow) (p : ℕ) → given_by (without test partitions) p ≤ given_by partitions p
given_without test partitions p =
    omega (arith, parts_sum (is_given_by p) partition_quota partitions, parts_sum (is_given_by p) partition_quota (without test partitions), sum_filter (part (is_given_by p) partition_quota) (λ row. not (test row)) partitions)
