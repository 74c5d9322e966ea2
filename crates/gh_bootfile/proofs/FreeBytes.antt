-- Texts without a byte: what parts a text stands in none of its pieces.
use Rattle.std.proofs.Common.{◌≡◌, ℕ, ◌≤◌, ltb, Bool, true, false, not}
use Rattle.std.proofs.Common.{List, [], ◌∷◌, ◌++◌, All, refl, ◌∙◌, arith}
use Rattle.std.specs.Prelude.{nat_le}
use Rattle.std.specs.List.{list_all, AllByRecursion}
use Rattle.std.proofs.lemmas.Bool.Decides.{nat_tests}
use Rattle.std.proofs.lemmas.Bool.{and_parts, and_from, not-true}
use Rattle.std.proofs.lemmas.List.Elements.{All-from_recursion}
use Rattle.std.proofs.lemmas.List.Folds.{list_all-append}
use Rattle.std.specs.Char.{digit_value}
use Rattle.gh_model.specs.Numeral.{is_digit, is_lower_digit}
use Rattle.gh_model.specs.Pieces.{is_byte_of}

-- the byte stands nowhere in the text
abbrev pub is_free : ℕ → List ℕ → Bool
is_free byte text = list_all (λ here. not (is_byte_of byte here)) text

pub free_append : (byte : ℕ) (xs ys : List ℕ) → is_free byte xs ≡ true → is_free byte ys ≡ true → is_free byte (xs ++ ys) ≡ true
free_append byte xs ys p q = list_all-append (λ here. not (is_byte_of byte here)) xs ys ∙ and_from (is_free byte xs) (is_free byte ys) p q

free_each : (byte : ℕ) (text : List ℕ) → is_free byte text ≡ true → AllByRecursion (λ here. is_byte_of byte here ≡ false) text
free_each byte [] free = tt
free_each byte (x ∷ xs) free =
    let parts = and_parts (not (is_byte_of byte x)) (is_free byte xs) free in
    (not-true (is_byte_of byte x) parts.0, free_each byte xs parts.1)

pub free_all : (byte : ℕ) (text : List ℕ) → is_free byte text ≡ true → All (λ here. is_byte_of byte here ≡ false) text
free_all byte text free = All-from_recursion (λ here. is_byte_of byte here ≡ false) text (free_each byte text free)

-- a byte above all that part a text
abbrev pub is_letter : ℕ → Bool
is_letter byte = nat_le 48 byte

not_letter : (byte here : ℕ) → byte ≤ 47 → is_letter here ≡ true → not (is_byte_of byte here) ≡ true
not_letter byte here low letter = grind (arith, nat_tests)

-- letters and digits have none of the bytes below theirs
pub letters_free : (byte : ℕ) (text : List ℕ) → byte ≤ 47 → list_all is_letter text ≡ true → is_free byte text ≡ true
letters_free byte [] low letters = refl
letters_free byte (x ∷ xs) low letters =
    let parts = and_parts (is_letter x) (list_all is_letter xs) letters in
    and_from (not (is_byte_of byte x)) (is_free byte xs) (not_letter byte x low parts.0) (letters_free byte xs low parts.1)

digit_letter : (byte : ℕ) → is_digit 10 byte ≡ true → is_letter byte ≡ true
digit_letter byte digit = let lower = (and_parts (is_lower_digit byte) (ltb (digit_value byte) 10) digit).0 in grind (arith, nat_tests)

pub digits_free : (byte : ℕ) (text : List ℕ) → byte ≤ 47 → list_all (is_digit 10) text ≡ true → is_free byte text ≡ true
digits_free byte [] low digits = refl
digits_free byte (x ∷ xs) low digits =
    let parts = and_parts (is_digit 10 x) (list_all (is_digit 10) xs) digits in
    and_from (not (is_byte_of byte x)) (is_free byte xs) (not_letter byte x low (digit_letter x parts.0)) (digits_free byte xs low parts.1)
