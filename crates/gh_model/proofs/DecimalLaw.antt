-- A decimal numeral is read from the text of its number, and from no other. For callers.
use Rattle.std.proofs.Common.{◌≡◌, ℕ, ◌^◌, ◌<◌, ◌≤◌, ◌&&◌, true, not, eqb, leb, ltb, List, length, get_or, Some, refl, sym, ap, ◌∙◌, inl, inr, arith}
use Rattle.std.specs.Fmt.{decimal}
use Rattle.std.specs.List.{list_all}
use Rattle.std.specs.Str.Parse.{digits_value}
use Rattle.std.proofs.lemmas.Bool.{and_from, and_parts, cases_lt, lt-ltb, le-leb, ltb-true}
use Rattle.std.proofs.lemmas.Bool.Decides.{nat_tests}
use Rattle.std.proofs.lemmas.Fmt.{decimal-digits_value, decimal_digit, decimal_nonempty, digits_decimal, digits_value-decimal, first_decimal, length-decimal-le}
use Rattle.std.proofs.lemmas.Option.{cond_some}
use Rattle.std.proofs.lemmas.Str.Parse.{IsDigitsTest, IsNumeralModel, numerals_by_value}
use Rattle.gh_model.specs.Numeral.{has_leading_zero, is_digit, is_numeral, number_of}

tells_digits : IsDigitsTest (λ ds. list_all (is_digit 10) ds ≡ true)
tells_digits = record {
  empty = refl;
  parts = λ c cs all. let both = and_parts (is_digit 10 c) (list_all (is_digit 10) cs) all in (in_range c both.0, both.1);
  more = λ c cs range all. and_from (is_digit 10 c) (list_all (is_digit 10) cs) (of_range c range) all;
}
  where
    in_range : (c : ℕ) → is_digit 10 c ≡ true → (48 ≤ c) × (c ≤ 57)
    in_range c digit = grind (arith, nat_tests)

    of_range : (c : ℕ) → (48 ≤ c) × (c ≤ 57) → is_digit 10 c ≡ true
    of_range c range = grind (arith, nat_tests)

-- std's decimal digits are ours
own : IsNumeralModel (λ ds. list_all (is_digit 10) ds ≡ true) (digits_value 10)
own = numerals_by_value (λ ds. list_all (is_digit 10) ds ≡ true) tells_digits

lone_zero : (count first : ℕ) → not (ltb 1 count && eqb first 48) ≡ true → 1 ≤ count → first ≡ 48 → count ≡ 1
lone_zero count first test some zero = grind (arith, nat_tests)

no_zero : (n : ℕ) → n < 2 ^ 64 → not (has_leading_zero (decimal n)) ≡ true
no_zero n small =
    elim (cases_lt 0 n) [
      | inl more ↦ (let first = first_decimal n more small in grind (arith, nat_tests))
      | inr none ↦ (let one = ap length (decimal_digit n (omega arith)) in grind (arith, nat_tests))
    ]

-- the text of a number has only digits
pub decimal_digits : (n : ℕ) → n < 2 ^ 64 → list_all (is_digit 10) (decimal n) ≡ true
decimal_digits n small = digits_decimal own n small

-- the text of a number is read as that number
pub decimal_again : (most n : ℕ) → 0 < most → n < 10 ^ most → n < 2 ^ 64 → number_of 10 most (decimal n) ≡ Some n
decimal_again most n some few small =
    let value : digits_value 10 (decimal n) ≡ n = digits_value-decimal own n small in
    let short : length (decimal n) ≤ most = length-decimal-le most n some few small in
    let form : is_numeral 10 (decimal n) ≡ true =
    and_from (ltb 0 (length (decimal n)) && not (has_leading_zero (decimal n))) (list_all (is_digit 10) (decimal n))
    (and_from (ltb 0 (length (decimal n))) (not (has_leading_zero (decimal n))) (lt-ltb 0 (length (decimal n)) (decimal_nonempty n small)) (no_zero n small))
    (decimal_digits n small) in
    rw (le-leb (length (decimal n)) most short, form, value) refl

-- what is read as a number is its text
pub decimal_read : (most n : ℕ) (text : List ℕ) → n < 2 ^ 64 → number_of 10 most text ≡ Some n → text ≡ decimal n
decimal_read most n text small e =
    let found = cond_some (leb (length text) most && is_numeral 10 text) (digits_value 10 text) n e in
    let form = and_parts (leb (length text) most) (is_numeral 10 text) found.0 in
    let parts = and_parts (ltb 0 (length text) && not (has_leading_zero text)) (list_all (is_digit 10) text) form.1 in
    let front = and_parts (ltb 0 (length text)) (not (has_leading_zero text)) parts.0 in
    let some : 0 < length text = ltb-true 0 (length text) front.0 in
    let below : digits_value 10 text < 2 ^ 64 = rw found.1 small in
    sym (decimal-digits_value own text parts.1 some (lone_zero (length text) (get_or text 0 0) front.1 some) below) ∙ ap decimal found.1
