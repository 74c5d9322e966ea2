-- A number of a line is read from its decimal, and the decimal of a number is read.
use Rattle.std.proofs.Common.{◌≡◌, ℕ, ◌^◌, ◌<◌, ◌≤◌, ltb}
use Rattle.std.proofs.Common.{true, List, Option, Some, None, refl, arith, lit<}
use Rattle.std.specs.Fmt.{decimal}
use Rattle.std.proofs.lemmas.Bool.{lt-ltb, ltb-true}
use Rattle.std.proofs.lemmas.Option.{cond_some}
use Rattle.gh_model.specs.Numeral.{number_of as numeral_of}
use Rattle.gh_model.proofs.DecimalLaw.{decimal_again, decimal_digits, decimal_read}
use Rattle.gh_bootfile.specs.Reading.{number_of, with_bits}
use Rattle.gh_bootfile.proofs.FreeBytes.{is_free, digits_free}

bits_read : (found : Option ℕ) (n : ℕ) → with_bits found ≡ Some n → (found ≡ Some n) × (n < 2 ^ 32)
bits_read None n e = absurd cc
bits_read (Some m) n e =
    let test = cond_some (ltb m (2 ^ 32)) m n e in
    let same : m ≡ n = test.1 in
    (rw same refl, rw (← same) (ltb-true m (2 ^ 32) test.0))

-- what is read is the number's text
pub number_read : (text : List ℕ) (n : ℕ) → number_of text ≡ Some n → (text ≡ decimal n) × (n < 2 ^ 32)
number_read text n e =
    let found = bits_read (numeral_of 10 10 text) n e in
    (decimal_read 10 n text (omega (arith, found.1)) found.0, found.1)

-- the text of a number is read as that number
pub number_again : (n : ℕ) → n < 2 ^ 32 → number_of (decimal n) ≡ Some n
number_again n small = rw (decimal_again 10 n (lit< tt) (omega arith) (omega arith), lt-ltb n (2 ^ 32) small) refl

pub decimal_free : (byte n : ℕ) → byte ≤ 47 → n < 2 ^ 32 → is_free byte (decimal n) ≡ true
decimal_free byte n low small = digits_free byte (decimal n) low (decimal_digits n (omega arith))
