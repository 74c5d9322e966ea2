-- A register is read from the digits that it is written with.
use Rattle.std.proofs.Common.{◌≡◌, ◌≢◌, ne_eqb, subst, ℕ, zero, suc, ◌+◌}
use Rattle.std.proofs.Common.{◌*◌, ◌/◌, ◌%◌, ◌^◌, ◌<◌, ◌≤◌}
use Rattle.std.proofs.Common.{◌&&◌, Bool, true, false, not, List, [], ◌∷◌, ◌++◌}
use Rattle.std.proofs.Common.{Some, length, get_or, ltb, leb, refl, sym, ap, ◌∙◌, inl}
use Rattle.std.proofs.Common.{inr, arith, append_assoc, length-append, append-nil}
use Rattle.std.specs.Char.{digit_value}
use Rattle.std.specs.Fmt.{digits, digit_glyph, digits_onto}
use Rattle.std.specs.List.{list_all}
use Rattle.std.specs.Str.Parse.{digits_value}
use Rattle.std.proofs.lemmas.Bool.{and_from, cases_lt, cases_eq, lt-ltb, le-leb, le-ltb}
use Rattle.std.proofs.lemmas.Bool.Decides.{nat_tests}
use Rattle.std.proofs.Math.Nat.{pow-suc}
use Rattle.std.proofs.lemmas.Int.Digits.{digits_value_push}
use Rattle.gh_model.specs.Numeral.{is_lower_digit, is_digit, has_leading_zero, is_numeral}
use Rattle.gh_callfile.specs.Grammar.{is_register, register_of}
use Rattle.gh_callfile.specs.Writing.{register_text}

glyph_is : (d : ℕ) → d < 16 → (digit_value (digit_glyph false d) ≡ d) × (is_lower_digit (digit_glyph false d) ≡ true) × (digit_glyph false d ≡ 48 → d ≡ 0)
glyph_is d small =
    elim (cases_lt d 10) [
      | inl digit ↦ rw (lt-ltb d 10 digit) (grind (arith, nat_tests), grind (arith, nat_tests), λ is. omega arith)
      | inr letter ↦ rw (le-ltb d 10 letter) (grind (arith, nat_tests), grind (arith, nat_tests), λ is. omega arith)
    ]

-- the digits of a number below 16^k
record Digits (k n : ℕ) (ds : List ℕ) : Type 0 where
  some : 1 ≤ length ds
  few : length ds ≤ k
  lower : list_all (is_digit 16) ds ≡ true
  value : digits_value 16 ds ≡ n
  first : get_or ds 0 0 ≡ 48 → length ds ≡ 1

one_digit : (d : ℕ) → d < 16 → is_digit 16 (digit_glyph false d) ≡ true
one_digit d small =
    let glyph = glyph_is d small in
    and_from (is_lower_digit (digit_glyph false d)) (ltb (digit_value (digit_glyph false d)) 16) glyph.1 (rw glyph.0 (lt-ltb d 16 small))

all_push : (p : ℕ → Bool) (xs : List ℕ) (y : ℕ) → list_all p xs ≡ true → p y ≡ true → list_all p (xs ++ y ∷ []) ≡ true
all_push p [] y all one = rw one refl
all_push p (x ∷ xs) y all one = more (p x) (list_all p xs) all (all_push p xs y)
  where
    more : (a b : Bool) → (a && b) ≡ true → (b ≡ true → p y ≡ true → list_all p (xs ++ y ∷ []) ≡ true) → (a && list_all p (xs ++ y ∷ [])) ≡ true
    more true b both next = next both one
    more false b both next = absurd cc

first_push : (xs : List ℕ) (y : ℕ) → 1 ≤ length xs → get_or (xs ++ y ∷ []) 0 0 ≡ get_or xs 0 0
first_push [] y some = absurd (omega arith)
first_push (x ∷ xs) y some = refl

lone : (d : ℕ) (k : ℕ) → d < 16 → 1 ≤ k → Digits k d (digit_glyph false d ∷ [])
lone d k small some = record {
  some = omega arith;
  few = omega arith;
  lower = rw (one_digit d small) refl;
  value = digits_value_push 16 [] (digit_glyph false d) ∙ rw (glyph_is d small).0 (omega arith);
  first = λ _. refl;
}

longer : (k n d : ℕ) (ds : List ℕ) → 0 < n → d < 16 → Digits k n ds → Digits (suc k) (n * 16 + d) (ds ++ digit_glyph false d ∷ [])
longer k n d ds more small all = record {
  some = omega (arith, length-append ds (digit_glyph false d ∷ []));
  few = omega (arith, all.few, length-append ds (digit_glyph false d ∷ []));
  lower = all_push (is_digit 16) ds (digit_glyph false d) all.lower (one_digit d small);
  value = digits_value_push 16 ds (digit_glyph false d) ∙ rw (all.value, (glyph_is d small).0) refl;
  first = λ is. absurd (only (sym (first_push ds (digit_glyph false d) all.some) ∙ is));
}
  where
    only : get_or ds 0 0 ≡ 48 → ⊥
    only is = alone ds (all.first is) is all.value
      where
        alone : (xs : List ℕ) → length xs ≡ 1 → get_or xs 0 0 ≡ 48 → digits_value 16 xs ≡ n → ⊥
        alone [] one is value = absurd (omega (arith, one))
        alone (x ∷ []) one is value =
            let none : digit_value x ≡ 0 = ap digit_value is in
            let pushed : digits_value 16 (x ∷ []) ≡ 0 * 16 + digit_value x = digits_value_push 16 [] x in
            omega (arith, more, value, pushed, none)
        alone (x ∷ (y ∷ xs)) one is value = absurd (omega (arith, one))

record Onto (k n : ℕ) (acc : List ℕ) (all : List ℕ) : Type 0 where
  ds : List ℕ
  are : Digits k n ds
  whole : all ≡ ds ++ acc

one_more : (fuel j n : ℕ) (acc : List ℕ) → n / 16 ≢ 0
    → Onto j (n / 16) (digit_glyph false (n % 16) ∷ acc) (digits_onto fuel 16 false (n / 16) (digit_glyph false (n % 16) ∷ acc))
    → Onto (suc j) n acc (digits_onto (suc fuel) 16 false n acc)
one_more fuel j n acc apart rest =
    let d = n % 16 in
    let more : 0 < n / 16 = omega (arith, apart) in
    let small : n % 16 < 16 = omega arith in
    let whole : n / 16 * 16 + n % 16 ≡ n = omega arith in
    let grown = longer j (n / 16) (n % 16) rest.ds more small rest.are in
    rw (ne_eqb (n / 16) 0 apart) (record {
      ds = rest.ds ++ digit_glyph false d ∷ [];
      are = subst (λ (m : ℕ). Digits (suc j) m (rest.ds ++ digit_glyph false d ∷ [])) whole grown;
      whole = rest.whole ∙ sym (append_assoc rest.ds (digit_glyph false d ∷ []) acc);
    })

last_one : (fuel k n : ℕ) (acc : List ℕ) → 1 ≤ k → n / 16 ≡ 0 → Onto k n acc (digits_onto (suc fuel) 16 false n acc)
last_one fuel k n acc some none =
    let small : n < 16 = omega (arith, none) in
    let same : n % 16 ≡ n = omega (arith, small) in
    rw (none, same) (record { ds = digit_glyph false n ∷ []; are = lone n k small some; whole = refl })

onto_is : (fuel k n : ℕ) (acc : List ℕ) → 1 ≤ k → k ≤ fuel → n < 16 ^ k → Onto k n acc (digits_onto fuel 16 false n acc)
onto_is fuel zero n acc some less below = absurd (omega arith)
onto_is zero (suc j) n acc some less below = absurd (omega arith)
onto_is (suc fuel) (suc zero) n acc some less below = last_one fuel 1 n acc (omega arith) (omega (arith, below))
onto_is (suc fuel) (suc (suc j)) n acc some less below =
    elim (cases_eq (n / 16) 0) [
      | inl none ↦ last_one fuel (suc (suc j)) n acc (omega arith) none
      | inr apart ↦
          let wider : 16 ^ suc (suc j) ≡ 16 ^ suc j * 16 = pow-suc 16 (suc j) in
          one_more fuel (suc j) n acc apart
          (onto_is fuel (suc j) (n / 16) (digit_glyph false (n % 16) ∷ acc) (omega arith) (omega (arith, less)) (omega (arith, below, wider)))
    ]

hex_digits : (n : ℕ) → n < 2 ^ 64 → Digits 16 n (register_text n)
unfolding digits
hex_digits n small =
    let all = onto_is 64 16 n [] (omega arith) (omega arith) small in
    subst (Digits 16 n) (sym (append-nil all.ds) ∙ sym all.whole) all.are

no_zero : (ds : List ℕ) → 1 ≤ length ds → (get_or ds 0 0 ≡ 48 → length ds ≡ 1) → not (has_leading_zero ds) ≡ true
no_zero ds some first = grind (arith, nat_tests)

-- every register is written with digits
pub register_form : (n : ℕ) → n < 2 ^ 64 → is_numeral 16 (register_text n) ≡ true
register_form n small =
    let all = hex_digits n small in
    and_from (ltb 0 (length (register_text n)) && not (has_leading_zero (register_text n))) (list_all (is_digit 16) (register_text n))
    (and_from (ltb 0 (length (register_text n))) (not (has_leading_zero (register_text n))) (lt-ltb 0 (length (register_text n)) (omega (arith, all.some))) (no_zero (register_text n) all.some all.first))
    all.lower

pub register_fits : (n : ℕ) → n < 2 ^ 64 → is_register (register_text n) ≡ true
register_fits n small =
    and_from (leb (length (register_text n)) 16) (is_numeral 16 (register_text n)) (le-leb (length (register_text n)) 16 (hex_digits n small).few) (register_form n small)

-- every register is read from its digits
pub register_again : (n : ℕ) → n < 2 ^ 64 → register_of (register_text n) ≡ Some n
register_again n small =
    let all = hex_digits n small in
    rw (le-leb (length (register_text n)) 16 all.few, register_form n small, all.value) refl
