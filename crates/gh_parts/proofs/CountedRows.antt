-- No more headers pass a test than rows pass another, where the row of each header that passes the one
-- passes the other.
use Rattle.std.proofs.Common.{◌≡◌, ◌+◌, ◌≤◌, ◌∙◌, ◌⊎◌, ℕ, zero, suc, Bool, true, false, List, [], ◌∷◌, Option, Some, None, refl, sym, ap, arith, inl, inr}
use Rattle.std.proofs.Common.{find, get_or}
use Rattle.std.specs.Prelude.{count_by, if◌then◌else◌}
use Rattle.std.proofs.lemmas.Bool.{cases_Bool, eqb-true, ne_eqb}
use Rattle.gh_invariant.proofs.Counting.{count_cons, one_false, one_true, without_here, without_later}
use Rattle.gh_invariant.proofs.RowsLeft.{count_fewer, find_left}
use Rattle.gh_model.specs.Changes.{without}
use Rattle.gh_model.specs.QueueCalls.{one_if}
use Rattle.gh_model.specs.Rows.{is_object}
use Rattle.gh_model.specs.declared.rows.ObjectRow.{ObjectRow}
use Rattle.gh_objects.specs.declared.header.Header.{Header}
use Rattle.gh_parts.proofs.Options.{some_same}

found_fewer_by : {R : Type 0} (p q : R → Bool) (first : R) (rows : List R) (row : R) (here : Bool)
    → p first ≡ here → (if here then Some first else find p rows) ≡ Some row → q row ≡ true
    → (find p rows ≡ Some row → count_by q (without p rows) + 1 ≤ count_by q rows)
    → count_by q (without p (first ∷ rows)) + 1 ≤ count_by q (first ∷ rows)
found_fewer_by {R} p q first rows row true passes is fits others =
    let one : one_if (q first) ≡ 1 = one_true (q first) (ap q (some_same first row is) ∙ fits) in
    let left : count_by q (without p (first ∷ rows)) ≡ count_by q (without p rows) =
    ap (count_by q) (without_here p first rows passes) in
    omega (arith, count_cons q first rows, count_fewer q p rows)
found_fewer_by {R} p q first rows row false fails is fits others =
    let left : count_by q (without p (first ∷ rows)) ≡ one_if (q first) + count_by q (without p rows) =
    ap (count_by q) (without_later p first rows fails) ∙ count_cons q first (without p rows) in
    omega (arith, count_cons q first rows, others is)

-- without a row that passes another test, one row less passes it
found_fewer : {R : Type 0} (p q : R → Bool) (rows : List R) (row : R) → find p rows ≡ Some row
    → q row ≡ true → count_by q (without p rows) + 1 ≤ count_by q rows
found_fewer p q [] row is fits = absurd (let never : ⊥ = cc in never)
found_fewer p q (first ∷ rows) row is fits =
    found_fewer_by p q first rows row (p first) refl is fits (λ later. found_fewer p q rows row later fits)

-- the row of a header that passes a test
pub record HasRow (q : ObjectRow → Bool) (rows : List ObjectRow) (header : Header) : Type 0 where
  pub row : ObjectRow
  pub found : find (is_object header.serial.0) rows ≡ Some row
  pub passes : q row ≡ true

-- each header that passes has a row that passes, and no two headers have one serial
pub record HaveRows (p : Option Header → Bool) (q : ObjectRow → Bool) (headers : List (Option Header))
    (rows : List ObjectRow) : Type 0 where
  pub each : (index : ℕ) (header : Header) → get_or headers index None ≡ Some header
      → p (Some header) ≡ true → HasRow q rows header
  pub apart : (index other : ℕ) (header also : Header) → get_or headers index None ≡ Some header
      → get_or headers other None ≡ Some also → header.serial.0 ≡ also.serial.0 → index ≡ other

later_rows : (p : Option Header → Bool) (q : ObjectRow → Bool) (first : Option Header)
    (headers : List (Option Header)) (rows : List ObjectRow) → HaveRows p q (first ∷ headers) rows
    → HaveRows p q headers rows
later_rows p q first headers rows have = record {
  each = λ index header is passes. have.each (suc index) header is passes;
  apart = λ index other header also is there same.
      let next : suc index ≡ suc other = have.apart (suc index) (suc other) header also is there same in
      omega arith;
}

-- the rows of the headers behind one whose row is taken away
other_rows : (p : Option Header → Bool) (q : ObjectRow → Bool) (first : Header)
    (headers : List (Option Header)) (rows : List ObjectRow) → HaveRows p q (Some first ∷ headers) rows
    → HaveRows p q headers (without (is_object first.serial.0) rows)
other_rows p q first headers rows have = record {
  each = λ index header is passes.
      let one : HasRow q rows header = have.each (suc index) header is passes in
      record {
        row = one.row;
        found = find_left (is_object header.serial.0) (is_object first.serial.0) rows
            (λ row is_first. ne_eqb row.serial.0 header.serial.0
            (λ same. never index header is (sym (eqb-true row.serial.0 first.serial.0 is_first) ∙ same)))
            ∙ one.found;
        passes = one.passes;
      };
  apart = (later_rows p q (Some first) headers rows have).apart;
}
  where
    never : (index : ℕ) (header : Header) → get_or headers index None ≡ Some header
        → first.serial.0 ≡ header.serial.0 → ⊥
    never index header is same =
        let zeroth : zero ≡ suc index = have.apart zero (suc index) first header refl is same in
        omega arith

count_some : (p : Option Header → Bool) (q : ObjectRow → Bool) (first : Header)
    (headers : List (Option Header)) (rows : List ObjectRow)
    → HaveRows p q (Some first ∷ headers) rows → (p (Some first) ≡ true) ⊎ (p (Some first) ≡ false)
    → count_by p headers ≤ count_by q rows
    → count_by p headers ≤ count_by q (without (is_object first.serial.0) rows)
    → count_by p (Some first ∷ headers) ≤ count_by q rows
count_some p q first headers rows have (inl passes) all others =
    let one : HasRow q rows first = have.each zero first refl passes in
    omega (
      arith,
      count_cons p (Some first) headers,
      one_true (p (Some first)) passes,
      found_fewer (is_object first.serial.0) q rows one.row one.found one.passes,
    )
count_some p q first headers rows have (inr fails) all others =
    omega (arith, count_cons p (Some first) headers, one_false (p (Some first)) fails)

-- as many headers as rows at most
pub count_headers : (p : Option Header → Bool) (q : ObjectRow → Bool) → p None ≡ false
    → (headers : List (Option Header)) (rows : List ObjectRow) → HaveRows p q headers rows
    → count_by p headers ≤ count_by q rows
count_headers p q none [] rows have = let no : count_by p [] ≡ 0 = refl in omega arith
count_headers p q none (None ∷ headers) rows have =
    omega (
      arith,
      count_cons p None headers,
      one_false (p None) none,
      count_headers p q none headers rows (later_rows p q None headers rows have),
    )
count_headers p q none (Some first ∷ headers) rows have =
    count_some p q first headers rows have (cases_Bool (p (Some first)))
    (count_headers p q none headers rows (later_rows p q (Some first) headers rows have))
    (count_headers p q none headers (without (is_object first.serial.0) rows) (other_rows p q first headers rows have))
