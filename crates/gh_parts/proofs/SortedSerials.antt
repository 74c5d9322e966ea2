-- Two lists of serials that rise, and have each serial as often as the other, are one.
use Rattle.std.proofs.Common.{◌≡◌, ◌∙◌, ◌+◌, ◌≤◌, ◌<◌, ℕ, Bool, true, false, List, [], ◌∷◌, refl}
use Rattle.std.proofs.Common.{sym, ap, arith, inl, inr, IsTrue, if◌then◌else◌}
use Rattle.std.specs.Prelude.{◌&&◌, nat_le}
use Rattle.std.specs.List.{list_all}
use Rattle.std.proofs.lemmas.Bool.{and_from, and_parts, cases_Bool, eq-eqb, eqb-true, le-leb}
use Rattle.std.proofs.lemmas.Bool.{leb-true, ltb-false, ltb-true}
use Rattle.gh_base.specs.declared.ids.Serial.{Serial}
use Rattle.gh_invariant.proofs.Counting.{count_cons, one_false, one_true}
use Rattle.gh_invariant.specs.Effects.{is_that, times}
use Rattle.gh_model.specs.QueueCalls.{one_if}
use Rattle.gh_objects.specs.Serials.{is_above, rising, with_serial}

-- the other serial isn't less
abbrev pub is_from : Serial → Serial → Bool
is_from first other = nat_le first.0 other.0

-- each serial is none less than those before it
abbrev pub sorted : List Serial → Bool
sorted [] = true
sorted (first ∷ others) = list_all (is_from first) others && sorted others

-- a serial more

put_times : (x : ℕ) (serial : Serial) (serials : List Serial)
    → times x (with_serial serial serials) ≡ one_if (is_that x serial) + times x serials
put_times x serial [] = count_cons (is_that x) serial []
put_times x serial (first ∷ rest) = by_order (is_above serial first) (put_times x serial rest)
  where
    by_order : (above : Bool) → times x (with_serial serial rest) ≡ one_if (is_that x serial) + times x rest
        → times x (if above then first ∷ with_serial serial rest else serial ∷ (first ∷ rest)) ≡ one_if (is_that x serial) + times x (first ∷ rest)
    by_order true others =
        omega (
          arith,
          count_cons (is_that x) first (with_serial serial rest),
          count_cons (is_that x) first rest,
          others,
        )
    by_order false others = count_cons (is_that x) serial (first ∷ rest)

pub rising_times : (x : ℕ) (serials : List Serial) → times x (rising serials) ≡ times x serials
rising_times x [] = refl
rising_times x (serial ∷ rest) =
    omega (arith, put_times x serial (rising rest), rising_times x rest, count_cons (is_that x) serial rest)

-- what isn't less than one isn't less than a lesser
from_less : (less first : Serial) (others : List Serial) → less.0 ≤ first.0 → IsTrue (list_all (is_from first) others)
    → IsTrue (list_all (is_from less) others)
from_less less first [] below all = refl
from_less less first (next ∷ others) below all =
    let both = and_parts (is_from first next) (list_all (is_from first) others) all in
    let above : first.0 ≤ next.0 = leb-true first.0 next.0 both.0 in
    and_from (is_from less next) (list_all (is_from less) others) (le-leb less.0 next.0 (omega arith))
    (from_less less first others below both.1)

put_from : (bound serial : Serial) (serials : List Serial) → IsTrue (is_from bound serial)
    → IsTrue (list_all (is_from bound) serials) → IsTrue (list_all (is_from bound) (with_serial serial serials))
put_from bound serial [] is all = and_from (is_from bound serial) true is refl
put_from bound serial (first ∷ rest) is all =
    let both = and_parts (is_from bound first) (list_all (is_from bound) rest) all in
    by_order (is_above serial first)
    (and_from (is_from bound first) (list_all (is_from bound) (with_serial serial rest)) both.0 (put_from bound serial rest is both.1))
    (and_from (is_from bound serial) (list_all (is_from bound) (first ∷ rest)) is all)
  where
    by_order : (above : Bool) → IsTrue (list_all (is_from bound) (first ∷ with_serial serial rest))
        → IsTrue (list_all (is_from bound) (serial ∷ first ∷ rest))
        → IsTrue (list_all (is_from bound) (if above then first ∷ with_serial serial rest else serial ∷ (first ∷ rest)))
    by_order true one other = one
    by_order false one other = other

put_sorted : (serial : Serial) (serials : List Serial) → IsTrue (sorted serials) → IsTrue (sorted (with_serial serial serials))
put_sorted serial [] is = refl
put_sorted serial (first ∷ rest) is =
    let both = and_parts (list_all (is_from first) rest) (sorted rest) is in
    by_order (is_above serial first) refl both.0 both.1 (put_sorted serial rest both.1)
  where
    by_order : (above : Bool) → is_above serial first ≡ above → IsTrue (list_all (is_from first) rest) → IsTrue (sorted rest)
        → IsTrue (sorted (with_serial serial rest))
        → IsTrue (sorted (if above then first ∷ with_serial serial rest else serial ∷ (first ∷ rest)))
    by_order true order from rest_is put =
        let less : first.0 < serial.0 = ltb-true first.0 serial.0 order in
        and_from (list_all (is_from first) (with_serial serial rest)) (sorted (with_serial serial rest))
        (put_from first serial rest (le-leb first.0 serial.0 (omega arith)) from) put
    by_order false order from rest_is put =
        let least : serial.0 ≤ first.0 = ltb-false first.0 serial.0 order in
        and_from (list_all (is_from serial) (first ∷ rest)) (sorted (first ∷ rest))
        (and_from (is_from serial first) (list_all (is_from serial) rest) (le-leb serial.0 first.0 least) (from_less serial first rest least from))
        (and_from (list_all (is_from first) rest) (sorted rest) from rest_is)

pub rising_sorted : (serials : List Serial) → IsTrue (sorted (rising serials))
rising_sorted [] = refl
rising_sorted (serial ∷ rest) = put_sorted serial (rising rest) (rising_sorted rest)

-- what stands behind a serial isn't less
not_less : (first : Serial) (x : ℕ) (others : List Serial) → IsTrue (list_all (is_from first) others) → 1 ≤ times x others → first.0 ≤ x
not_less first x [] all some = let none : times x [] ≡ 0 = refl in absurd (omega (arith, none, some))
not_less first x (next ∷ others) all some =
    let both = and_parts (is_from first next) (list_all (is_from first) others) all in
    let above : first.0 ≤ next.0 = leb-true first.0 next.0 both.0 in
    elim (cases_Bool (is_that x next)) [
      | inl here ↦ omega (arith, above, eqb-true next.0 x here)
      | inr later ↦
          not_less first x others both.1
          (omega (arith, some, count_cons (is_that x) next others, one_false (is_that x next) later))
    ]

itself : (serial : Serial) → is_that serial.0 serial ≡ true
itself serial = eq-eqb serial.0 serial.0 refl

first_least : (first other : Serial) (others rest : List Serial) → IsTrue (sorted (other ∷ rest))
    → times first.0 (first ∷ others) ≡ times first.0 (other ∷ rest) → other.0 ≤ first.0
first_least first other others rest is same =
    let both = and_parts (list_all (is_from other) rest) (sorted rest) is in
    elim (cases_Bool (is_that first.0 other)) [
      | inl here ↦ omega (arith, eqb-true other.0 first.0 here)
      | inr later ↦
          not_less other first.0 rest both.0
          (omega (
            arith,
            same,
            count_cons (is_that first.0) first others,
            one_true (is_that first.0 first) (itself first),
            count_cons (is_that first.0) other rest,
            one_false (is_that first.0 other) later,
          ))
    ]

one_serial : (a b : Serial) → a.0 ≡ b.0 → a ≡ b
one_serial a b same = let of : ℕ → Serial = λ n. record { 0 = n } in ap of same

pub same_sorted : (xs ys : List Serial) → IsTrue (sorted xs) → IsTrue (sorted ys) → ((x : ℕ) → times x xs ≡ times x ys) → xs ≡ ys
same_sorted [] [] one other same = refl
same_sorted [] (y ∷ ys) one other same =
    let none : times y.0 [] ≡ 0 = refl in
    absurd (omega (arith, same y.0, none, count_cons (is_that y.0) y ys, one_true (is_that y.0 y) (itself y)))
same_sorted (x ∷ xs) [] one other same =
    let none : times x.0 [] ≡ 0 = refl in
    absurd (omega (arith, same x.0, none, count_cons (is_that x.0) x xs, one_true (is_that x.0 x) (itself x)))
same_sorted (x ∷ xs) (y ∷ ys) one other same =
    let first : x ≡ y =
    one_serial x y (omega (arith, first_least x y xs ys other (same x.0), first_least y x ys xs one (sym (same y.0)))) in
    let rest : xs ≡ ys =
    same_sorted xs ys (and_parts (list_all (is_from x) xs) (sorted xs) one).1 (and_parts (list_all (is_from y) ys) (sorted ys) other).1
    (λ n.
    omega (
      arith,
      same n,
      count_cons (is_that n) x xs,
      count_cons (is_that n) y ys,
      ap (λ (serial : Serial). one_if (is_that n serial)) first,
    )) in
    ap (λ (serial : Serial). serial ∷ xs) first ∙ ap (λ (others : List Serial). y ∷ others) rest
