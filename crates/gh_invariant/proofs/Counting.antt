-- How many rows of a list pass a test, which one is found, and whether all pass, once a row is added
-- or taken away.
use Rattle.std.proofs.Common.{◌≡◌, ◌+◌, ◌≤◌, ◌∙◌, ℕ, Bool, true, false, not, List, [], ◌∷◌, ◌++◌, refl, subst, sym, ap, arith, Option, Some, None, IsTrue, find, if◌then◌else◌}
use Rattle.std.specs.Option.{option_or}
use Rattle.std.specs.Prelude.{count_by}
use Rattle.std.specs.List.{list_all}
use Rattle.std.proofs.lemmas.Bool.{and_parts, and_from}
use Rattle.std.proofs.lemmas.List.Sums.{sum_by-cons, sum_by-append}
use Rattle.gh_model.specs.QueueCalls.{one_if}
use Rattle.gh_model.specs.Changes.{without}
use Rattle.std.proofs.lemmas.List.Folds.{list_all-append}
use Rattle.gh_model.proofs.CpuRows.{unfound_none}
use Rattle.gh_model.proofs.RunLists.{count_snoc}

pub one_true : (b : Bool) → b ≡ true → one_if b ≡ 1
one_true b is = rw is refl

pub one_false : (b : Bool) → b ≡ false → one_if b ≡ 0
one_false b is = rw is refl

pub one_same : (b : Bool) → one_if b ≡ (if b then 1 else 0)
one_same true = refl
one_same false = refl

-- a row that may be there counts if it passes
abbrev pub count_found : {R : Type 0} → (R → Bool) → Option R → ℕ
count_found p None = 0
count_found p (Some row) = one_if (p row)

-- one row, and the others

module _ {R : Type 0} (p : R → Bool) (row : R) (rows : List R) where
  -- the first row counts if it passes
  pub count_cons : count_by p (row ∷ rows) ≡ one_if (p row) + count_by p rows
  count_cons = sum_by-cons _ row rows ∙ ap (λ (n : ℕ). n + count_by p rows) (sym (one_same (p row)))

  pub find_here : p row ≡ true → find p (row ∷ rows) ≡ Some row
  find_here passes = rw passes refl

  pub find_later : p row ≡ false → find p (row ∷ rows) ≡ find p rows
  find_later fails = rw fails refl

  pub without_here : p row ≡ true → without p (row ∷ rows) ≡ without p rows
  without_here passes = rw passes refl

  pub without_later : p row ≡ false → without p (row ∷ rows) ≡ row ∷ without p rows
  without_later fails = rw fails refl

-- a row alone counts if it passes
pub count_one : {R : Type 0} (p : R → Bool) (row : R) → count_by p (row ∷ []) ≡ one_if (p row)
count_one p row =
    let all : count_by p (row ∷ []) ≡ one_if (p row) + count_by p [] = count_cons p row [] in
    let none : count_by p [] ≡ 0 = refl in
    omega arith

-- rows of two lists count together
pub count_append : {R : Type 0} (p : R → Bool) (rows others : List R)
    → count_by p (rows ++ others) ≡ count_by p rows + count_by p others
count_append p rows others = sum_by-append _ rows others

-- a row at the end

-- a row at the end counts if it passes
pub count_push : {R : Type 0} (p : R → Bool) (rows : List R) (row : R)
    → count_by p (rows ++ row ∷ []) ≡ count_by p rows + one_if (p row)
count_push p rows row =
    count_snoc p rows row ∙ ap (λ (n : ℕ). count_by p rows + n) (sym (one_same (p row)))

find_push_by : {R : Type 0} (p : R → Bool) (first row : R) (rows : List R) (here : Bool)
    → p first ≡ here → find p (rows ++ row ∷ []) ≡ option_or (find p rows) (find p (row ∷ []))
    → find p (first ∷ rows ++ row ∷ []) ≡ option_or (find p (first ∷ rows)) (find p (row ∷ []))
find_push_by p first row rows true passes others = rw passes refl
find_push_by p first row rows false fails others = rw fails others

-- a row at the end is found where no other is
pub find_push : {R : Type 0} (p : R → Bool) (rows : List R) (row : R)
    → find p (rows ++ row ∷ []) ≡ option_or (find p rows) (find p (row ∷ []))
find_push p [] row = refl
find_push p (first ∷ rows) row = find_push_by p first row rows (p first) refl (find_push p rows row)

-- one that is found stays so behind a row at the end
pub find_push_found : {R : Type 0} (p : R → Bool) (rows : List R) (row found : R)
    → find p rows ≡ Some found → find p (rows ++ row ∷ []) ≡ Some found
find_push_found {R = R} p rows row found is =
    find_push p rows row ∙ ap (λ (o : Option R). option_or o (find p (row ∷ []))) is

option_or_none : {R : Type 0} (o : Option R) → option_or o None ≡ o
option_or_none None = refl
option_or_none (Some row) = refl

-- one that doesn't pass changes nothing
pub find_push_other : {R : Type 0} (p : R → Bool) (rows : List R) (row : R) → p row ≡ false
    → find p (rows ++ row ∷ []) ≡ find p rows
find_push_other p rows row fails =
    find_push p rows row ∙ ap (option_or (find p rows)) (find_later p row [] fails) ∙ option_or_none (find p rows)

-- one that passes is found where none was
pub find_push_new : {R : Type 0} (p : R → Bool) (rows : List R) (row : R) → find p rows ≡ None
    → p row ≡ true → find p (rows ++ row ∷ []) ≡ Some row
find_push_new {R = R} p rows row none passes =
    find_push p rows row ∙ ap (λ (o : Option R). option_or o (find p (row ∷ []))) none ∙ find_here p row [] passes

pub all_push : {R : Type 0} (p : R → Bool) (rows : List R) (row : R) → IsTrue (list_all p rows)
    → IsTrue (p row) → IsTrue (list_all p (rows ++ row ∷ []))
all_push p rows row all last =
    list_all-append p rows (row ∷ []) ∙ and_from _ _ all (and_from _ _ last refl)

-- what is counted, found and passed by all

found_passes_by : {R : Type 0} (p : R → Bool) (first : R) (rows : List R) (row : R) (here : Bool)
    → p first ≡ here → (if here then Some first else find p rows) ≡ Some row
    → (find p rows ≡ Some row → p row ≡ true) → p row ≡ true
found_passes_by p first rows row true passes is others =
    let same : first ≡ row = cc in ap p (sym same) ∙ passes
found_passes_by p first rows row false fails is others = others is

-- what is found passes
pub found_passes : {R : Type 0} (p : R → Bool) (rows : List R) (row : R) → find p rows ≡ Some row
    → p row ≡ true
found_passes p [] row is = absurd (let never : ⊥ = cc in never)
found_passes p (first ∷ rows) row is =
    found_passes_by p first rows row (p first) refl is (λ later. found_passes p rows row later)

found_all_by : {R : Type 0} (p q : R → Bool) (first : R) (rows : List R) (row : R) (here : Bool)
    → p first ≡ here → (if here then Some first else find p rows) ≡ Some row → q first ≡ true
    → (find p rows ≡ Some row → q row ≡ true) → q row ≡ true
found_all_by p q first rows row true passes is fits others =
    let same : first ≡ row = cc in ap q (sym same) ∙ fits
found_all_by p q first rows row false fails is fits others = others is

-- what all pass, one that is found passes
pub found_all : {R : Type 0} (p q : R → Bool) (rows : List R) (row : R) → IsTrue (list_all q rows)
    → find p rows ≡ Some row → IsTrue (q row)
found_all p q [] row all is = absurd (let never : ⊥ = cc in never)
found_all p q (first ∷ rows) row all is =
    let parts : (q first ≡ true) × (list_all q rows ≡ true) = and_parts _ _ all in
    found_all_by p q first rows row (p first) refl is parts.0 (λ later. found_all p q rows row parts.1 later)

found_one_by : {R : Type 0} (p : R → Bool) (first : R) (rows : List R) (row : R) (here : Bool)
    → p first ≡ here → (if here then Some first else find p rows) ≡ Some row
    → (find p rows ≡ Some row → 1 ≤ count_by p rows) → 1 ≤ one_if here + count_by p rows
found_one_by p first rows row true passes is others =
    let one : one_if true ≡ 1 = refl in omega arith
found_one_by p first rows row false fails is others =
    let more : 1 ≤ count_by p rows = others is in omega arith

-- what is found is counted
pub found_one : {R : Type 0} (p : R → Bool) (rows : List R) (row : R) → find p rows ≡ Some row
    → 1 ≤ count_by p rows
found_one p [] row is = absurd (let never : ⊥ = cc in never)
found_one p (first ∷ rows) row is =
    subst (λ (n : ℕ). 1 ≤ n) (sym (count_cons p first rows)) (found_one_by p first rows row (p first) refl is (λ later. found_one p rows row later))

unfound_by : {R : Type 0} (p : R → Bool) (rows : List R) (found : Option R) → find p rows ≡ found
    → count_by p rows ≡ 0 → find p rows ≡ None
unfound_by p rows None is none = is
unfound_by p rows (Some row) is none =
    let one : 1 ≤ count_by p rows = found_one p rows row is in absurd (omega arith)

-- what isn't counted isn't found
pub unfound : {R : Type 0} (p : R → Bool) (rows : List R) → count_by p rows ≡ 0 → find p rows ≡ None
unfound p rows none = unfound_by p rows (find p rows) refl none

-- what isn't found isn't counted
pub count_unfound : {R : Type 0} (p : R → Bool) (rows : List R) → find p rows ≡ None
    → count_by p rows ≡ 0
count_unfound p rows none = unfound_none p rows none

none_fail_by : {R : Type 0} (p : R → Bool) (row : R) (here : Bool) → p row ≡ here → one_if here ≡ 0
    → p row ≡ false
none_fail_by p row true passes none = let one : one_if true ≡ 1 = refl in absurd (omega arith)
none_fail_by p row false fails none = fails

-- what isn't counted, all fail
pub none_fail : {R : Type 0} (p : R → Bool) (rows : List R) → count_by p rows ≡ 0
    → IsTrue (list_all (λ (row : R). not (p row)) rows)
none_fail p [] none = refl
none_fail p (row ∷ rows) none =
    let all : count_by p (row ∷ rows) ≡ one_if (p row) + count_by p rows = count_cons p row rows in
    let fails : p row ≡ false = none_fail_by p row (p row) refl (omega arith) in
    and_from _ _ (ap not fails) (none_fail p rows (omega arith))

-- tests that follow from tests

-- where one test follows from another, all pass it
pub all_by : {R : Type 0} (p q : R → Bool) (rows : List R)
    → ((row : R) → IsTrue (p row) → IsTrue (q row)) → IsTrue (list_all p rows)
    → IsTrue (list_all q rows)
all_by p q [] follows all = refl
all_by p q (row ∷ rows) follows all =
    let parts : (p row ≡ true) × (list_all p rows ≡ true) = and_parts _ _ all in
    and_from _ _ (follows row parts.0) (all_by p q rows follows parts.1)

-- where a test follows from two, all pass it
pub all_by_two : {R : Type 0} (p q r : R → Bool) (rows : List R)
    → ((row : R) → IsTrue (p row) → IsTrue (q row) → IsTrue (r row)) → IsTrue (list_all p rows)
    → IsTrue (list_all q rows) → IsTrue (list_all r rows)
all_by_two p q r [] follows all also = refl
all_by_two p q r (row ∷ rows) follows all also =
    let parts : (p row ≡ true) × (list_all p rows ≡ true) = and_parts _ _ all in
    let others : (q row ≡ true) × (list_all q rows ≡ true) = and_parts _ _ also in
    and_from _ _ (follows row parts.0 others.0) (all_by_two p q r rows follows parts.1 others.1)

-- tests that agree count alike
pub count_same : {R : Type 0} (p q : R → Bool) (rows : List R) → ((row : R) → p row ≡ q row)
    → count_by p rows ≡ count_by q rows
count_same p q [] same = refl
count_same p q (row ∷ rows) same =
    count_cons p row rows ∙ ap (λ (b : Bool). one_if b + count_by p rows) (same row) ∙ ap (λ (n : ℕ). one_if (q row) + n) (count_same p q rows same) ∙ sym (count_cons q row rows)

one_most : (b c : Bool) → (b ≡ true → c ≡ true) → one_if b ≤ one_if c
one_most false c follows = let none : one_if false ≡ 0 = refl in omega arith
one_most true c follows = let one : one_if true ≡ 1 = refl in let also : one_if c ≡ 1 = one_true c (follows refl) in omega arith

-- a test that follows from another counts no less
pub count_most : {R : Type 0} (p q : R → Bool) (rows : List R)
    → ((row : R) → p row ≡ true → q row ≡ true) → count_by p rows ≤ count_by q rows
count_most p q [] follows = let none : count_by p [] ≡ 0 = refl in omega arith
count_most p q (row ∷ rows) follows =
    let all : count_by p (row ∷ rows) ≡ one_if (p row) + count_by p rows = count_cons p row rows in
    let also : count_by q (row ∷ rows) ≡ one_if (q row) + count_by q rows = count_cons q row rows in
    let here : one_if (p row) ≤ one_if (q row) = one_most (p row) (q row) (follows row) in
    let others : count_by p rows ≤ count_by q rows = count_most p q rows follows in
    omega arith
