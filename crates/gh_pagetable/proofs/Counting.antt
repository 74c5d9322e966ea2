-- The tables of the entries of the top table are those of the map.
use Rattle.std.proofs.Common.{◌≡◌, ℕ, ◌+◌, ◌*◌, Bool, true, false, cond, not}
use Rattle.std.proofs.Common.{List, [], ◌∷◌, length, refl, sym, ap, ◌∙◌, arith}
use Rattle.std.specs.List.{flat_map, sum_by}
use Rattle.std.proofs.lemmas.List.{map-id}
use Rattle.std.proofs.lemmas.List.Sums.{sum_by-append, sum_by-cons}
use Rattle.gh_pagetable.specs.Entry.{AllCover, IsTable, tables_below}
use Rattle.gh_pagetable.specs.Map.{Target, at, is_uniform, ranges, tables_of}
use Rattle.gh_pagetable.proofs.Ranges.{ranges-ranges, ranges-table, split-run}
use Rattle.gh_pagetable.proofs.Tables.{cover_head, cover_tail, length-table}
use Rattle.gh_pagetable.proofs.Uniform.{is_uniform-is}

sum_by-none : {X : Type 0} (xs : List X) → sum_by (λ _. 0) xs ≡ 0
sum_by-none [] = refl
sum_by-none (x ∷ xs) = sum_by-none xs

sum_by-same :
    {X : Type 0} (f g : X → ℕ) → ((x : X) → f x ≡ g x) → (xs : List X) → sum_by f xs ≡ sum_by g xs
sum_by-same f g same [] = refl
sum_by-same f g same (x ∷ xs) =
    let rest = sum_by-same f g same xs in
    let first = same x in
    omega (arith, sum_by-cons f x xs, sum_by-cons g x xs)

sum_by-flat_map :
    {X Y : Type 0} (f : Y → ℕ) (g : X → List Y) (xs : List X)
    → sum_by f (flat_map g xs) ≡ sum_by (λ x. sum_by f (g x)) xs
sum_by-flat_map f g [] = refl
sum_by-flat_map f g (x ∷ xs) =
    let rest = sum_by-flat_map f g xs in
    omega (arith, sum_by-append f (g x) (flat_map g xs), sum_by-cons (λ x. sum_by f (g x)) x xs)

-- the table that a range has of its own, or none
abbrev own : List Target → ℕ
own range = cond (not (is_uniform range)) 1 0

-- those of its 16 parts of n pages each
abbrev parts : ℕ → List Target → ℕ
parts n range = sum_by own (ranges n 16 range)

-- the tables of the entry of a second table, and of one of the top table
abbrev second_tables : List Target → ℕ
second_tables = tables_below (λ _. 0) 1

abbrev top_tables : ℕ → List Target → ℕ
top_tables n = tables_below second_tables n

own_choice : (b : Bool) (below : ℕ) → below ≡ 0 → cond b 0 (1 + below) ≡ cond (not b) 1 0
own_choice true below none = refl
own_choice false below none = ap (λ n. 1 + n) none

second_tables-own : (range : List Target) → second_tables range ≡ own range
second_tables-own range = own_choice (is_uniform range) _ (sum_by-none (ranges 1 16 range))

both_choice :
    (b : Bool) (below split : ℕ)
    → (b ≡ true → split ≡ 0) → below ≡ split → cond b 0 (1 + below) ≡ cond (not b) 1 0 + split
both_choice true below split none same = rw (none refl)
both_choice false below split none same = ap (λ n. 1 + n) same

top_tables-own :
    (n : ℕ) (range : List Target)
    → length range ≡ n * 16 → top_tables n range ≡ own range + parts n range
top_tables-own n range size =
    let run_of = is_uniform-is range in
    let none : is_uniform range ≡ true → parts n range ≡ 0 =
    λ uniform. rw (run_of uniform, size) (split-run n 16 (at range 0)) in
    let same = sum_by-same second_tables own second_tables-own (ranges n 16 range) in
    both_choice (is_uniform range) _ _ none same

sum_of_tops :
    (n : ℕ) (es : List (List Target))
    → AllCover (λ e. e) (n * 16) es
    → sum_by (top_tables n) es ≡ sum_by own es + sum_by (parts n) es
sum_of_tops n [] cover = refl
sum_of_tops n (e ∷ es) cover =
    let first = top_tables-own n e (cover_head (λ e. e) (n * 16) e es cover) in
    let rest = sum_of_tops n es (cover_tail (λ e. e) (n * 16) e es cover) in
    omega (arith, sum_by-cons (top_tables n) e es, sum_by-cons own e es, sum_by-cons (parts n) e es)

pub tables_of-top :
    (es : List (List Target))
    → IsTable (λ e. e) 256 es → sum_by (top_tables 16) es ≡ tables_of (flat_map (λ e. e) es)
tables_of-top es table =
    let all = flat_map (λ e. e) es in
    let size = length-table (λ e. e) 256 es table in
    let tops = rw table.count at (ranges-table (λ e. e) 256 es table.cover) ∙ map-id es in
    let seconds = ranges-ranges 16 16 16 all ∙ ap (flat_map (ranges 16 16)) tops in
    let sums = sum_by-flat_map own (ranges 16 16) es in
    sum_of_tops 16 es table.cover ∙ rw (size, tops, seconds) (ap (λ n. sum_by own es + n) (sym sums))
