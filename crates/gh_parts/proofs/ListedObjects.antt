-- The serials that counts list are those of the rows that pass a test, by rising serial.
use Rattle.std.proofs.Common.{◌≡◌, ◌∙◌, ◌+◌, ◌≤◌, ◌<◌, ℕ, suc, zero, Bool, true, false, List, []}
use Rattle.std.proofs.Common.{◌∷◌, refl, sym, ap, arith, IsTrue, Option, Some, None, filter, find}
use Rattle.std.proofs.Common.{get_or, map, if◌then◌else◌}
use Rattle.std.specs.Prelude.{count_by, filter_map, nat_lt, nat_le}
use Rattle.std.specs.List.{list_all}
use Rattle.std.proofs.lemmas.Bool.{and_from, and_parts, eqb-true, false_from_ne_true, le-leb}
use Rattle.std.proofs.lemmas.Bool.{ltb-true}
use Rattle.gh_base.specs.declared.ids.Serial.{Serial}
use Rattle.gh_events.specs.Rising.{rises, serials_of}
use Rattle.gh_invariant.proofs.Counting.{count_cons, count_found, find_here, find_later, one_false}
use Rattle.gh_invariant.proofs.Counting.{one_true, unfound}
use Rattle.gh_invariant.specs.Effects.{is_that, times}
use Rattle.gh_model.specs.QueueCalls.{one_if}
use Rattle.gh_model.specs.Rows.{is_object}
use Rattle.gh_model.specs.declared.rows.ObjectRow.{ObjectRow}
use Rattle.gh_objects.specs.Counts.{count_at}
use Rattle.gh_objects.specs.Serials.{rising}
use Rattle.gh_objects.specs.declared.count.Count.{Count}
use Rattle.gh_schedules.specs.Sweep.{serial_of}
use Rattle.gh_parts.proofs.SortedSerials.{is_from, rising_sorted, rising_times, same_sorted, sorted}

-- where one place alone may pass, what passes is counted there
counted_none : {X : Type 0} (p : X → Bool) (xs : List X) (d : X)
    → ((i : ℕ) → p (get_or xs i d) ≡ false) → count_by p xs ≡ 0
counted_none p [] d none = refl
counted_none p (x ∷ xs) d none =
    omega (arith, count_cons p x xs, one_false (p x) (none 0), counted_none p xs d (λ i. none (suc i)))

pub counted_at : {X : Type 0} (p : X → Bool) (xs : List X) (d : X) (at : ℕ) → p d ≡ false
    → ((i : ℕ) → p (get_or xs i d) ≡ true → i ≡ at) → count_by p xs ≡ one_if (p (get_or xs at d))
counted_at p [] d at none alone = sym (one_false (p d) none)
counted_at p (x ∷ xs) d zero none alone =
    let rest : count_by p xs ≡ 0 =
    counted_none p xs d (λ i. false_from_ne_true (p (get_or xs i d)) (λ is. let same : suc i ≡ 0 = alone (suc i) is in omega (arith, same))) in
    omega (arith, count_cons p x xs, rest)
counted_at p (x ∷ xs) d (suc at) none alone =
    let first : p x ≡ false = false_from_ne_true (p x) (λ is. let same : 0 ≡ suc at = alone 0 is in omega (arith, same)) in
    omega (
      arith,
      count_cons p x xs,
      one_false (p x) first,
      counted_at p xs d at none (λ i is. let same : suc i ≡ suc at = alone (suc i) is in omega (arith, same)),
    )

-- lists by a test

-- a serial that may be there is this one
abbrev pub is_told : ℕ → Option Serial → Bool
is_told x None = false
is_told x (Some serial) = is_that x serial

told_times : {X : Type 0} (told : X → Option Serial) (x : ℕ) (xs : List X)
    → times x (filter_map told xs) ≡ count_by (λ one. is_told x (told one)) xs
told_times told x [] = refl
told_times told x (one ∷ others) = by_told (told one) refl (told_times told x others)
  where
    by_told : (here : Option Serial) → told one ≡ here
        → times x (filter_map told others) ≡ count_by (λ other. is_told x (told other)) others
        → times x (filter_map told (one ∷ others)) ≡ count_by (λ other. is_told x (told other)) (one ∷ others)
    by_told None is rest =
        let same : filter_map told (one ∷ others) ≡ filter_map told others = rw is refl in
        let fails : is_told x (told one) ≡ false = ap (is_told x) is in
        omega (arith, ap (times x) same, rest, count_cons (λ other. is_told x (told other)) one others, one_false (is_told x (told one)) fails)
    by_told (Some serial) is rest =
        let same : filter_map told (one ∷ others) ≡ serial ∷ filter_map told others = rw is refl in
        omega (
          arith,
          ap (times x) same,
          rest,
          count_cons (is_that x) serial (filter_map told others),
          count_cons (λ other. is_told x (told other)) one others,
          ap (λ (o : Option Serial). one_if (is_told x o)) is,
        )

either : (b : Bool) {n : ℕ} → n ≡ 1 → (if b then n else 0) ≡ one_if b
either true is = is
either false is = refl

neither : (b : Bool) {n : ℕ} → n ≡ 0 → (if b then n else 0) ≡ 0
neither true is = is
neither false is = refl

module _ (q : ObjectRow → Bool) where
  row_step : (x : ℕ) (row : ObjectRow) (rows : List ObjectRow) (passes : Bool) → q row ≡ passes
      → times x (map serial_of (filter q (row ∷ rows))) ≡ (if passes then one_if (is_that x row.serial) else 0) + times x (map serial_of (filter q rows))
  row_step x row rows true is =
      let same : map serial_of (filter q (row ∷ rows)) ≡ row.serial ∷ map serial_of (filter q rows) = rw is refl in
      ap (times x) same ∙ count_cons (is_that x) row.serial (map serial_of (filter q rows))
  row_step x row rows false is =
      let same : map serial_of (filter q (row ∷ rows)) ≡ map serial_of (filter q rows) = rw is refl in
      let none : (if false then one_if (is_that x row.serial) else 0) ≡ 0 = refl in
      omega (arith, ap (times x) same, none)

  -- a row that is there once is listed once, if it passes
  row_times : (x : ℕ) (rows : List ObjectRow) → count_by (is_object x) rows ≤ 1
      → times x (map serial_of (filter q rows)) ≡ count_found q (find (is_object x) rows)
  row_times x [] once = refl
  row_times x (row ∷ rows) once =
      let few : count_by (is_object x) rows ≤ 1 = omega (arith, once, count_cons (is_object x) row rows) in
      by_serial (is_object x row) refl (row_step x row rows (q row) refl) (row_times x rows few)
    where
      by_serial : (here : Bool) → is_object x row ≡ here
          → times x (map serial_of (filter q (row ∷ rows))) ≡ (if q row then one_if (is_object x row) else 0) + times x (map serial_of (filter q rows))
          → times x (map serial_of (filter q rows)) ≡ count_found q (find (is_object x) rows)
          → times x (map serial_of (filter q (row ∷ rows))) ≡ count_found q (find (is_object x) (row ∷ rows))
      by_serial true is step rest =
          let gone : find (is_object x) rows ≡ None =
          unfound (is_object x) rows (omega (arith, once, count_cons (is_object x) row rows, one_true (is_object x row) is)) in
          let none : times x (map serial_of (filter q rows)) ≡ 0 = rest ∙ ap (count_found q) gone in
          let own : (if q row then one_if (is_object x row) else 0) ≡ one_if (q row) =
          either (q row) (one_true (is_object x row) is) in
          omega (arith, step, none, own, ap (count_found q) (find_here (is_object x) row rows is))
      by_serial false is step rest =
          let own : (if q row then one_if (is_object x row) else 0) ≡ 0 = neither (q row) (one_false (is_object x row) is) in
          omega (arith, step, rest, own, ap (count_found q) (find_later (is_object x) row rows is))

-- rows that rise are sorted
sorted_numbers : (rows : List ObjectRow) → IsTrue (rises (serials_of rows)) → IsTrue (sorted (map serial_of rows))
sorted_numbers [] is = refl
sorted_numbers (row ∷ rows) is =
    let both = and_parts (list_all (nat_lt row.serial.0) (serials_of rows)) (rises (serials_of rows)) is in
    and_from _ (sorted (map serial_of rows)) (above rows both.0) (sorted_numbers rows both.1)
  where
    above : (others : List ObjectRow) → IsTrue (list_all (nat_lt row.serial.0) (serials_of others))
        → IsTrue (list_all (λ (other : Serial). nat_le row.serial.0 other.0) (map serial_of others))
    above [] all = refl
    above (one ∷ others) all =
        let both = and_parts (nat_lt row.serial.0 one.serial.0) (list_all (nat_lt row.serial.0) (serials_of others)) all in
        let less : row.serial.0 < one.serial.0 = ltb-true row.serial.0 one.serial.0 both.0 in
        and_from (nat_le row.serial.0 one.serial.0) _ (le-leb row.serial.0 one.serial.0 (omega arith)) (above others both.1)

module _ (q : ObjectRow → Bool) where
  filtered_from : (bound : Serial) (rows : List ObjectRow) → IsTrue (list_all (is_from bound) (map serial_of rows))
      → IsTrue (list_all (is_from bound) (map serial_of (filter q rows)))
  filtered_from bound [] all = refl
  filtered_from bound (row ∷ rows) all =
      let both = and_parts (is_from bound row.serial) (list_all (is_from bound) (map serial_of rows)) all in
      by_test (q row) both.0 (filtered_from bound rows both.1)
    where
      by_test : (passes : Bool) → IsTrue (is_from bound row.serial)
          → IsTrue (list_all (is_from bound) (map serial_of (filter q rows)))
          → IsTrue (list_all (is_from bound) (map serial_of (if passes then row ∷ filter q rows else filter q rows)))
      by_test true first others = and_from (is_from bound row.serial) _ first others
      by_test false first others = others

  filtered_sorted : (rows : List ObjectRow) → IsTrue (sorted (map serial_of rows))
      → IsTrue (sorted (map serial_of (filter q rows)))
  filtered_sorted [] is = refl
  filtered_sorted (row ∷ rows) is =
      let both = and_parts (list_all (is_from row.serial) (map serial_of rows)) (sorted (map serial_of rows)) is in
      by_test (q row) (filtered_from row.serial rows both.0) (filtered_sorted rows both.1)
    where
      by_test : (passes : Bool) → IsTrue (list_all (is_from row.serial) (map serial_of (filter q rows)))
          → IsTrue (sorted (map serial_of (filter q rows)))
          → IsTrue (sorted (map serial_of (if passes then row ∷ filter q rows else filter q rows)))
      by_test true from others = and_from (list_all (is_from row.serial) (map serial_of (filter q rows))) _ from others
      by_test false from others = others

-- the serials that counts tell by a test are those of the rows that pass another, where each row's
-- count, at its serial's index, passes the one as the row passes the other
pub record AreListedBy (told : Option Count → Option Serial) (q : ObjectRow → Bool) (counts : List (Option Count))
    (objects : List ObjectRow) (index : ℕ → ℕ) : Type 0 where
  pub none : told None ≡ None
  pub own : (at : ℕ) (serial : Serial) → told (count_at counts at) ≡ Some serial → at ≡ index serial.0
  pub each : (serial : ℕ) → one_if (is_told serial (told (count_at counts (index serial))))
      ≡ count_found q (find (is_object serial) objects)
  pub once : (serial : ℕ) → count_by (is_object serial) objects ≤ 1
  pub rising : IsTrue (rises (serials_of objects))

module _ (told : Option Count → Option Serial) (q : ObjectRow → Bool) (counts : List (Option Count))
    (objects : List ObjectRow) (index : ℕ → ℕ) (are : AreListedBy told q counts objects index) where
  own_by : (x at : ℕ) (one : Option Serial) → told (count_at counts at) ≡ one → is_told x one ≡ true → at ≡ index x
  own_by x at None is passes = absurd (let never : ⊥ = cc in never)
  own_by x at (Some serial) is passes = are.own at serial is ∙ ap index (eqb-true serial.0 x passes)

  same_times : (x : ℕ) → times x (filter_map told counts) ≡ times x (map serial_of (filter q objects))
  same_times x =
      told_times told x counts
      ∙ counted_at (λ count. is_told x (told count)) counts None (index x) (ap (is_told x) are.none)
      (λ at passes. own_by x at (told (get_or counts at None)) refl passes)
      ∙ are.each x
      ∙ sym (row_times q x objects (are.once x))

  pub listed_by : rising (filter_map told counts) ≡ map serial_of (filter q objects)
  listed_by =
      same_sorted (rising (filter_map told counts)) (map serial_of (filter q objects)) (rising_sorted (filter_map told counts))
      (filtered_sorted q objects (sorted_numbers objects are.rising))
      (λ x. rising_times x (filter_map told counts) ∙ same_times x)
