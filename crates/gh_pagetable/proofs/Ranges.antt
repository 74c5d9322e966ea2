-- The ranges of a map.
use Rattle.std.proofs.Common.{◌≡◌, ℕ, zero, suc, ◌+◌, ◌-◌, ◌*◌, ◌≤◌}
use Rattle.std.proofs.Common.{not, List, [], ◌∷◌, ◌++◌, map, length, take, drop}
use Rattle.std.proofs.Common.{refl, ap, ◌∙◌, arith, zero-add, suc-add, mul-zero}
use Rattle.std.specs.List.{count_by, flat_map}
use Rattle.std.proofs.lemmas.List.{drop-drop, drop-take, drop_at, take-take, take_at}
use Rattle.gh_pagetable.specs.Entry.{AllCover, run}
use Rattle.gh_pagetable.specs.Map.{Target, further, is_uniform, ranges}
use Rattle.gh_pagetable.proofs.Runs.{length-run, run-append}
use Rattle.gh_pagetable.proofs.Tables.{cover_head, cover_tail}
use Rattle.gh_pagetable.proofs.Uniform.{is_uniform-run}

-- the ranges of a table are those of its entries
pub ranges-table :
    {E : Type 0} (targets : E → List Target) (n : ℕ) (es : List E)
    → AllCover targets n es → ranges n (length es) (flat_map targets es) ≡ map targets es
unfolding ranges
ranges-table targets n [] cover = refl
ranges-table targets n (e ∷ es) cover =
    let head = cover_head targets n e es cover in
    let rest = ranges-table targets n es (cover_tail targets n e es cover) in
    let first = take_at (targets e) (flat_map targets es) n head in
    let later = drop_at (targets e) (flat_map targets es) n head in
    rw (first, later, rest)

ranges-add :
    (n a b : ℕ) (ts : List Target)
    → ranges n (a + b) ts ≡ ranges n a ts ++ ranges n b (drop (n * a) ts)
unfolding ranges
ranges-add n zero b ts = rw (mul-zero, zero-add)
ranges-add n (suc a) b ts =
    let rest = ranges-add n a b (drop n ts) in
    let place : n + n * a ≡ n * suc a = omega arith in
    let later = drop-drop (n * a) n ts in
    rw (suc-add, rest, later, place)

ranges-take : (n a m : ℕ) (ts : List Target) → n * a ≤ m → ranges n a (take m ts) ≡ ranges n a ts
unfolding ranges
ranges-take n zero m ts within = refl
ranges-take n (suc a) m ts within =
    let first : n ≤ m = omega arith in
    let more : n * a ≤ m - n = omega arith in
    let parts : m ≡ n + (m - n) = omega arith in
    let later = ap (λ (k : ℕ). drop n (take k ts)) parts ∙ drop-take n (m - n) ts in
    rw (take-take, later, ranges-take n a (m - n) (drop n ts) more)

-- the ranges of ranges
pub ranges-ranges :
    (n q c : ℕ) (ts : List Target)
    → ranges n (q * c) ts ≡ flat_map (ranges n q) (ranges (n * q) c ts)
unfolding ranges
ranges-ranges n q zero ts = rw mul-zero
ranges-ranges n q (suc c) ts =
    let count : q * suc c ≡ q + q * c = omega arith in
    let first = ranges-take n q (n * q) ts (omega arith) in
    let rest = ranges-ranges n q c (drop (n * q) ts) in
    rw (count, ranges-add, first, rest)

-- every range of a uniform range is uniform
pub split-run :
    (n a : ℕ) (t : Target)
    → count_by (λ range. not (is_uniform range)) (ranges n a (run t (n * a))) ≡ 0
unfolding ranges
split-run n zero t = refl
split-run n (suc a) t =
    let place : n * suc a ≡ n + n * a = omega arith in
    let first = take_at (run t n) (run (further t n) (n * a)) n (length-run t n) in
    let later = drop_at (run t n) (run (further t n) (n * a)) n (length-run t n) in
    let whole = is_uniform-run t n in
    rw (place, run-append, first, later, whole) (split-run n a (further t n))
