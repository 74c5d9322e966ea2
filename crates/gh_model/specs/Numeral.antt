-- Numerals: lower-case digits without leading zeros.
use Rattle.std.specs.Prelude.{◌==◌, ◌&&◌, ◌||◌, not, ℕ, Bool, List, length}
use Rattle.std.specs.Prelude.{slice_index, nat_le, nat_lt, Option, Some, None, if◌then◌else◌}
use Rattle.std.specs.List.{list_all}
use Rattle.std.specs.Char.{digit_value}
use Rattle.std.specs.Str.Parse.{digits_value}

-- a digit in lower case: 0 to 9, then a to f
abbrev pub is_lower_digit : ℕ → Bool
is_lower_digit byte = (nat_le 48 byte && nat_le byte 57) || (nat_le 97 byte && nat_le byte 102)

-- a lower-case digit below the radix
abbrev pub is_digit : ℕ → ℕ → Bool
is_digit radix byte = is_lower_digit byte && nat_lt (digit_value byte) radix

-- a word begins with a zero and goes on
abbrev pub has_leading_zero : List ℕ → Bool
has_leading_zero word = nat_lt 1 (length word) && (slice_index word 0 == 48)

-- one or more digits below the radix, without leading zeros
abbrev pub is_numeral : ℕ → List ℕ → Bool
is_numeral radix word =
    nat_lt 0 (length word) && not (has_leading_zero word) && list_all (is_digit radix) word

-- the number that a word of at most so many digits writes, if it is a numeral
abbrev pub number_of : ℕ → ℕ → List ℕ → Option ℕ
number_of radix most word =
    if nat_le (length word) most && is_numeral radix word then Some (digits_value radix word)
    else None
