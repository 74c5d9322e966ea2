-- What is written as a line or a file is read back.
use Rattle.std.proofs.Common.{◌≡◌, ℕ, zero, suc, ◌+◌, ◌-◌, ◌*◌, ◌/◌}
use Rattle.std.proofs.Common.{◌%◌, ◌^◌, ◌<◌, ◌≤◌, ◌&&◌, ◌∷◌}
use Rattle.std.proofs.Common.{◌++◌, Bool, true, false, not, List, [], Option, Some, None}
use Rattle.std.proofs.Common.{is_some, length, map, get_or, cond, eqb, ltb, leb, refl, sym}
use Rattle.std.proofs.Common.{ap, ◌∙◌, subst, inl, inr, arith, lit<, append_assoc}
use Rattle.std.specs.Char.{digit_value}
use Rattle.std.specs.Fmt.{decimal}
use Rattle.std.specs.List.{AllByRecursion, flat_map, join_with_byte, list_all, slice_split}
use Rattle.std.proofs.lemmas.Bool.{and_from, and_parts, not-true, cases_lt, le-leb}
use Rattle.std.proofs.lemmas.Bool.Decides.{nat_tests}
use Rattle.hex.specs.Hex.{encode_lower, encode_with, lower_digits, IsBytes}
use Rattle.hex.proofs.HexLemmas.{length-encode_with, decode_of-encode_lower}
use Rattle.gh_model.proofs.DecimalLaw.{decimal_again, decimal_digits}
use Rattle.gh_model.specs.Numeral.{is_lower_digit, is_digit, has_leading_zero, is_numeral}
use Rattle.gh_callfile.specs.Grammar.{is_bytes, bytes_of, repeat_of, bytes_written}
use Rattle.gh_callfile.specs.Grammar.{registers_of, is_register, line_of}
use Rattle.gh_callfile.specs.CallFile.{Reading, Good, BadAt, calls_of, calls_of_lines, is_line_feed}
use Rattle.gh_callfile.specs.CallFile.{line_then, read_from, reading, told_reading, with_lines}
use Rattle.gh_callfile.specs.Spelling.{IsWellWritten, marked, spelled, written_words}
use Rattle.gh_callfile.specs.Writing.{register_text, bytes_text, ended_line, file_text, written_of}
use Rattle.gh_callfile.specs.Writing.{IsWritable, NoLines, OneMore, SpellLines, SpellsFile}
use Rattle.gh_model.specs.declared.program.Line.{Line}
use Rattle.gh_callfile.proofs.RegisterLemmas.{register_again, register_fits}
use Rattle.gh_callfile.proofs.SpellingLemmas.{read_is_spelled, spelled_is_read}
use Rattle.gh_callfile.proofs.CallFileLemmas.{read_step}
use Rattle.std.proofs.lemmas.Bool.{eqb-true}
use Rattle.std.proofs.lemmas.List.Splits.{join_with_byte-slice_split, slice_split_at}
use Rattle.std.proofs.lemmas.List.Sums.{sum_by-cons}
use Rattle.std.specs.Prelude.{slice_get, All}
use Rattle.std.proofs.lemmas.List.Elements.{All-from_recursion}
use Rattle.std.proofs.lemmas.List.{length-map, nil_from_length}

-- ---- repeats

-- every repeat is read from the decimal that it is written with
pub repeat_again : (n : ℕ) → 1 ≤ n → n ≤ 65536 → repeat_of (decimal n) ≡ Some n
repeat_again n some few = rw (decimal_again 5 n (lit< tt) (omega arith) (omega arith), le-leb 1 n some, le-leb n 65536 few) refl

-- ---- bytes

-- the first n digits of the table are digits, which computes
abbrev all_lower : ℕ → Bool
all_lower zero = true
all_lower (suc n) = is_digit 16 (get_or lower_digits n 0) && all_lower n

lower_below : (n d : ℕ) → all_lower n ≡ true → d < n → is_digit 16 (get_or lower_digits d 0) ≡ true
lower_below zero d all small = absurd (omega arith)
lower_below (suc n) d all small =
    let both = and_parts (is_digit 16 (get_or lower_digits n 0)) (all_lower n) all in
    elim (cases_lt d n) [
      | inl below ↦ lower_below n d both.1 below
      | inr past ↦
          let last : d ≡ n = omega (arith, small, past) in
          rw last both.0
    ]

lower_digit : (d : ℕ) → d < 16 → is_digit 16 (get_or lower_digits d 0) ≡ true
lower_digit d small = lower_below 16 d refl small

encoded_digits : (bytes : List ℕ) → IsBytes bytes → list_all (is_digit 16) (encode_lower bytes) ≡ true
unfolding encode_with
encoded_digits [] are = refl
encoded_digits (byte ∷ bytes) are =
    let fits : byte < 256 = are 0 in
    let high : byte / 16 < 16 = omega (arith, fits) in
    let low : byte % 16 < 16 = omega arith in
    and_from (is_digit 16 (get_or lower_digits (byte / 16) 0)) (is_digit 16 (get_or lower_digits (byte % 16) 0) && list_all (is_digit 16) (encode_lower bytes)) (lower_digit (byte / 16) high)
    (and_from (is_digit 16 (get_or lower_digits (byte % 16) 0)) (list_all (is_digit 16) (encode_lower bytes)) (lower_digit (byte % 16) low) (encoded_digits bytes (λ k. are (suc k))))

-- all bytes are read from the digits that they are written with
pub bytes_again : (bytes : List ℕ) → 1 ≤ length bytes → length bytes ≤ 14620 → IsBytes bytes → bytes_of (encode_lower bytes) ≡ Some bytes
bytes_again bytes some few are =
    let size : length (encode_lower bytes) ≡ 2 * length bytes = length-encode_with lower_digits bytes in
    let even : length (encode_lower bytes) % 2 ≡ 0 = omega (arith, size) in
    let form : is_bytes (encode_lower bytes) ≡ true =
    and_from (leb 2 (length (encode_lower bytes)) && leb (length (encode_lower bytes)) 29240 && eqb (length (encode_lower bytes) % 2) 0) (list_all (is_digit 16) (encode_lower bytes))
    (and_from (leb 2 (length (encode_lower bytes)) && leb (length (encode_lower bytes)) 29240) (eqb (length (encode_lower bytes) % 2) 0)
    (and_from (leb 2 (length (encode_lower bytes))) (leb (length (encode_lower bytes)) 29240) (le-leb _ _ (omega (arith, size, some))) (le-leb _ _ (omega (arith, size, few))))
    (rw even refl))
    (encoded_digits bytes are) in
    rw (form, decode_of-encode_lower bytes are) refl

-- ---- lines

bytes_written_again : (bytes : List ℕ) → length bytes ≤ 14620 → IsBytes bytes → bytes_written (bytes_text bytes) ≡ Some bytes
bytes_written_again [] few are = refl
bytes_written_again (byte ∷ bytes) few are = bytes_again (byte ∷ bytes) (omega arith) few are

-- nine registers
registers_again : (x : List ℕ) → length x ≡ 9 → ((k : ℕ) → get_or x k 0 < 2 ^ 64)
    → (registers_of (map register_text x) ≡ x) × (list_all is_register (map register_text x) ≡ true)
registers_again (a ∷ (b ∷ (c ∷ (d ∷ (e ∷ (f ∷ (g ∷ (h ∷ (i ∷ []))))))))) nine fit = (
  rw (
    register_again a (fit 0),
    register_again b (fit 1),
    register_again c (fit 2),
    register_again d (fit 3),
    register_again e (fit 4),
    register_again f (fit 5),
    register_again g (fit 6),
    register_again h (fit 7),
    register_again i (fit 8),
  ) refl,
  rw (
    register_fits a (fit 0),
    register_fits b (fit 1),
    register_fits c (fit 2),
    register_fits d (fit 3),
    register_fits e (fit 4),
    register_fits f (fit 5),
    register_fits g (fit 6),
    register_fits h (fit 7),
    register_fits i (fit 8),
  ) refl,
)
registers_again x nine fit = absurd (omega (arith, nine))

writable_is_well : (line : Line) → IsWritable line → IsWellWritten (written_of line)
writable_is_well line fits =
    let registers = registers_again line.frame.x fits.nine fits.registers in
    record {
      some_registers = omega (arith, length-map line.frame.x register_text, fits.nine);
      few_registers = omega (arith, length-map line.frame.x register_text, fits.nine);
      are_registers = registers.1;
      has_bytes = ap is_some (bytes_written_again line.frame.bytes fits.few_bytes fits.are_bytes);
      has_times = ap is_some (repeat_again line.times fits.some_times fits.few_times);
    }

-- a line is read from what is written of it
pub line_again : (line : Line) → IsWritable line → line_of (spelled (written_of line)) ≡ Some line
line_again line fits =
    let registers = registers_again line.frame.x fits.nine fits.registers in
    spelled_is_read (written_of line) (writable_is_well line fits)
    ∙ rw (registers.0, bytes_written_again line.frame.bytes fits.few_bytes fits.are_bytes, repeat_again line.times fits.some_times fits.few_times) refl

-- ---- files

-- no byte of a text is a line feed
abbrev is_one_line : List ℕ → Bool
is_one_line text = list_all (λ byte. not (is_line_feed byte)) text

one_line-append : (xs ys : List ℕ) → is_one_line xs ≡ true → is_one_line ys ≡ true → is_one_line (xs ++ ys) ≡ true
one_line-append [] ys first second = second
one_line-append (x ∷ xs) ys first second =
    let both = and_parts (not (is_line_feed x)) (is_one_line xs) first in
    and_from (not (is_line_feed x)) (is_one_line (xs ++ ys)) both.0 (one_line-append xs ys both.1 second)

-- words of one line each, joined by spaces, are one line
joined_line : (words : List (List ℕ)) → list_all is_one_line words ≡ true → is_one_line (join_with_byte 32 words) ≡ true
joined_line [] all = refl
joined_line (word ∷ []) all = (and_parts (is_one_line word) true all).0
joined_line (word ∷ (next ∷ words)) all =
    let both = and_parts (is_one_line word) (list_all is_one_line (next ∷ words)) all in
    one_line-append word (32 ∷ join_with_byte 32 (next ∷ words)) both.0
    (and_from (not (is_line_feed 32)) (is_one_line (join_with_byte 32 (next ∷ words))) refl (joined_line (next ∷ words) both.1))

digit_line : (radix byte : ℕ) → is_digit radix byte ≡ true → not (is_line_feed byte) ≡ true
digit_line radix byte digit = let lower = (and_parts (is_lower_digit byte) (ltb (digit_value byte) radix) digit).0 in grind (arith, nat_tests)

digits_line : (radix : ℕ) (word : List ℕ) → list_all (is_digit radix) word ≡ true → is_one_line word ≡ true
digits_line radix [] all = refl
digits_line radix (byte ∷ word) all =
    let both = and_parts (is_digit radix byte) (list_all (is_digit radix) word) all in
    and_from (not (is_line_feed byte)) (is_one_line word) (digit_line radix byte both.0) (digits_line radix word both.1)

registers_line : (words : List (List ℕ)) → list_all is_register words ≡ true → list_all is_one_line words ≡ true
registers_line [] all = refl
registers_line (word ∷ words) all =
    let both = and_parts (is_register word) (list_all is_register words) all in
    let numeral = (and_parts (leb (length word) 16) (is_numeral 16 word) both.0).1 in
    let digits = (and_parts (ltb 0 (length word) && not (has_leading_zero word)) (list_all (is_digit 16) word) numeral).1 in
    and_from (is_one_line word) (list_all is_one_line words) (digits_line 16 word digits) (registers_line words both.1)

all_append : (xs ys : List (List ℕ)) → list_all is_one_line xs ≡ true → list_all is_one_line ys ≡ true → list_all is_one_line (xs ++ ys) ≡ true
all_append [] ys first second = second
all_append (x ∷ xs) ys first second =
    let both = and_parts (is_one_line x) (list_all is_one_line xs) first in
    and_from (is_one_line x) (list_all is_one_line (xs ++ ys)) both.0 (all_append xs ys both.1 second)

bytes_line : (bytes : List ℕ) → IsBytes bytes → list_all is_one_line (marked 58 (bytes_text bytes)) ≡ true
bytes_line [] are = refl
bytes_line (byte ∷ bytes) are = rw (digits_line 16 (encode_lower (byte ∷ bytes)) (encoded_digits (byte ∷ bytes) are)) refl

-- what is written of a line is one line
written_line : (line : Line) → IsWritable line → is_one_line (spelled (written_of line)) ≡ true
written_line line fits =
    let registers = registers_line (map register_text line.frame.x) (registers_again line.frame.x fits.nine fits.registers).1 in
    let times : is_one_line (decimal line.times) ≡ true = digits_line 10 (decimal line.times) (decimal_digits line.times (omega (arith, fits.few_times))) in
    let repeat : list_all is_one_line (marked 42 (Some (decimal line.times))) ≡ true = rw times refl in
    joined_line (written_words (written_of line))
    (all_append (map register_text line.frame.x) (marked 58 (bytes_text line.frame.bytes) ++ marked 42 (Some (decimal line.times))) registers
    (all_append (marked 58 (bytes_text line.frame.bytes)) (marked 42 (Some (decimal line.times))) (bytes_line line.frame.bytes fits.are_bytes) repeat))

no_line_feed : (text : List ℕ) → is_one_line text ≡ true → All (λ byte. is_line_feed byte ≡ false) text
no_line_feed text all = All-from_recursion (λ byte. is_line_feed byte ≡ false) text (each text all)
  where
    each : (xs : List ℕ) → is_one_line xs ≡ true → AllByRecursion (λ byte. is_line_feed byte ≡ false) xs
    each [] all = tt
    each (x ∷ xs) all =
        let both = and_parts (not (is_line_feed x)) (is_one_line xs) all in
        (not-true (is_line_feed x) both.0, each xs both.1)

-- the pieces of a file that is written
first_piece : (line : Line) (rest : List ℕ) → IsWritable line
    → slice_split is_line_feed (ended_line line ++ rest) ≡ spelled (written_of line) ∷ slice_split is_line_feed rest
first_piece line rest fits =
    ap (slice_split is_line_feed) (append_assoc (spelled (written_of line)) (10 ∷ []) rest)
    ∙ slice_split_at is_line_feed (spelled (written_of line)) 10 rest (no_line_feed (spelled (written_of line)) (written_line line fits)) refl

-- the lines of a file are read from what is written of them
pub file_again : (lines : List Line) (number room : ℕ) → ((i : ℕ) (line : Line) → slice_get lines i ≡ Some line → IsWritable line)
    → calls_of_lines lines ≤ room → read_from number room (slice_split is_line_feed (file_text lines)) ≡ Good lines
unfolding read_from
file_again [] number room fit few = refl
file_again (line ∷ lines) number room fit few =
    let fits = fit 0 line refl in
    let sum : calls_of_lines (line ∷ lines) ≡ line.times + calls_of_lines lines = sum_by-cons (λ (one : Line). one.times) line lines in
    let again = file_again lines (number + 1) (room - line.times) (λ i other at. fit (suc i) other at) (omega (arith, few, sum)) in
    ap (read_from number room) (first_piece line (file_text lines) fits)
    ∙ read_step number room (spelled (written_of line)) (file_text lines)
    ∙ rw (line_again line fits, le-leb line.times room (omega (arith, few, sum)), again) refl

-- what is read as a file is spelled by texts of its lines
pub record Texts (pieces : List (List ℕ)) (lines : List Line) : Type 0 where
  pub texts : List (List ℕ)
  pub spell : SpellLines texts lines
  pub whole : join_with_byte 10 pieces ≡ flat_map (λ (text : List ℕ). text ++ 10 ∷ []) texts

texts_then : (number room : ℕ) (text : List ℕ) (next : List ℕ) (pieces : List (List ℕ)) (lines : List Line) (found : Option Line) (later : Reading)
    → line_of text ≡ found → ((more : List Line) → later ≡ Good more → Texts (next ∷ pieces) more)
    → line_then number room found later ≡ Good lines → Texts (text ∷ (next ∷ pieces)) lines
texts_then number room text next pieces lines None later is behind good = absurd cc
texts_then number room text next pieces lines (Some line) later is behind good = go (leb line.times room) later behind good where
  go : (b : Bool) (read : Reading) → ((more : List Line) → read ≡ Good more → Texts (next ∷ pieces) more)
      → cond b (with_lines (line ∷ []) read) (BadAt number) ≡ Good lines → Texts (text ∷ (next ∷ pieces)) lines
  go true (Good more) behind said =
      let same : line ∷ more ≡ lines = cc in
      let rest = behind more refl in
      subst (Texts (text ∷ (next ∷ pieces))) same (record {
        texts = text ∷ rest.texts;
        spell = OneMore (read_is_spelled text line is) rest.spell;
        whole = ap (λ (t : List ℕ). text ++ 10 ∷ t) rest.whole ∙ sym (append_assoc text (10 ∷ []) _);
      })
  go true (BadAt at) behind said = absurd cc
  go false read behind said = absurd cc

pub texts_read : (number room : ℕ) (pieces : List (List ℕ)) (lines : List Line) → read_from number room pieces ≡ Good lines → Texts pieces lines
unfolding read_from
texts_read number room [] lines good =
    let none : [] ≡ lines = cc in
    subst (Texts []) none (record { texts = []; spell = NoLines; whole = refl })
texts_read number room (last ∷ []) lines good = go last (eqb (length last) 0) refl good where
  go : (text : List ℕ) (b : Bool) → eqb (length text) 0 ≡ b → cond b (Good []) (BadAt number) ≡ Good lines → Texts (text ∷ []) lines
  go text true empty said =
      let none : [] ≡ lines = cc in
      subst (Texts (text ∷ [])) none (record { texts = []; spell = NoLines; whole = nil_from_length text (eqb-true (length text) 0 empty) })
  go text false empty said = absurd cc
texts_read number room (text ∷ (next ∷ pieces)) lines good =
    texts_then number room text next pieces lines (line_of text) _ refl (texts_read (number + 1) (room - calls_of (line_of text)) (next ∷ pieces)) good

untold : (read : Reading) (lines : List Line) → told_reading read ≡ Good lines → read ≡ Good lines
untold (Good more) lines said = said
untold (BadAt number) lines said = absurd cc

pub file_is_spelled : (text : List ℕ) (room : ℕ) (lines : List Line) → reading text room ≡ Good lines → SpellsFile text lines
file_is_spelled text room lines good =
    let all = texts_read 1 room (slice_split is_line_feed text) lines (untold _ lines good) in
    record { texts = all.texts; spell = all.spell; its_text = sym (join_with_byte-slice_split 10 text) ∙ all.whole }
