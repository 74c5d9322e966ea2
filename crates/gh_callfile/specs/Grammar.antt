-- The grammar of a call line, word by word.
use Rattle.std.specs.Prelude.{◌==◌, ◌&&◌, ◌%◌, ℕ, Bool, List, [], ◌∷◌}
use Rattle.std.specs.Prelude.{length, drop, slice_index, slice_get, count_by, nat_le, Option}
use Rattle.std.specs.Prelude.{Some, None, unwrap_or, map, Result, Ok, Err, if◌then◌else◌}
use Rattle.std.specs.List.{list_all, prefix_len, slice_split, take_while}
use Rattle.std.specs.Borrow.{Bor}
use Rattle.hex.specs.Hex.{decode_of}
use Rattle.hex.specs.declared.error.FromHexError.{FromHexError}
use Rattle.gh_model.specs.Numeral.{is_digit, is_numeral, number_of}
use Rattle.gh_model.specs.declared.program.Line.{Line}

-- the byte is a space
abbrev pub is_space : ℕ → Bool
is_space byte = byte == 32

-- a register: 1 to 16 lower-case hexadecimal digits without leading zeros
abbrev pub register_of : List ℕ → Option ℕ
register_of word = number_of 16 16 word

-- the word is a register
abbrev pub is_register : List ℕ → Bool
is_register word = nat_le (length word) 16 && is_numeral 16 word

-- a repeat is made 1 to 65,536 times
abbrev pub repeat_of_number : Option ℕ → Option ℕ
repeat_of_number None = None
repeat_of_number (Some number) =
    if nat_le 1 number && nat_le number 65536 then Some number else None

-- a repeat: a decimal number from 1 to 65,536, which has at most five digits
abbrev pub repeat_of : List ℕ → Option ℕ
repeat_of word = repeat_of_number (number_of 10 5 word)

-- bytes: 2 to 29,240 lower-case hexadecimal digits, an even number of them
abbrev pub is_bytes : List ℕ → Bool
is_bytes word =
    nat_le 2 (length word) && nat_le (length word) 29240 && (length word % 2 == 0)
    && list_all (is_digit 16) word

-- the bytes that were decoded, if they were
abbrev pub decoded : Result (List ℕ) FromHexError → Option (List ℕ)
decoded (Ok bytes) = Some bytes
decoded (Err error) = None

-- the bytes that a word writes, two digits a byte
abbrev pub bytes_of : List ℕ → Option (List ℕ)
bytes_of word = if is_bytes word then decoded (decode_of word) else None

-- the mark before bytes is a colon, that before a repeat a star
abbrev pub is_mark : ℕ → List ℕ → Bool
is_mark mark word = (length word == 1) && (slice_index word 0 == mark)

-- what stands behind the registers: the word of the bytes and that of the repeat, where they are
-- written
pub record Tail : Type 0 where
  pub bytes : Option (List ℕ)
  pub repeat : Option (List ℕ)

-- bytes behind a colon, or a repeat behind a star
abbrev pub one_part : List ℕ → List ℕ → Option Tail
one_part mark word =
    if is_mark 58 mark then Some (record { bytes = Some word; repeat = None })
    else (if is_mark 42 mark then Some (record { bytes = None; repeat = Some word }) else None)

-- bytes behind a colon, and then a repeat behind a star
abbrev pub two_parts : List ℕ → List ℕ → List ℕ → List ℕ → Option Tail
two_parts colon bytes star repeat =
    if is_mark 58 colon && is_mark 42 star
    then Some (record { bytes = Some bytes; repeat = Some repeat })
    else None

-- the words behind the registers: none, bytes, a repeat, or bytes and then a repeat
abbrev pub tail_of : List (List ℕ) → Option Tail
tail_of [] = Some (record { bytes = None; repeat = None })
tail_of (mark ∷ []) = None
tail_of (mark ∷ (word ∷ [])) = one_part mark word
tail_of (mark ∷ (word ∷ (next ∷ []))) = None
tail_of (colon ∷ (bytes ∷ (star ∷ (repeat ∷ [])))) = two_parts colon bytes star repeat
tail_of (colon ∷ (bytes ∷ (star ∷ (repeat ∷ (more ∷ words))))) = None

-- a line without bytes has none, and one without a repeat is made once
abbrev pub bytes_written : Option (List ℕ) → Option (List ℕ)
bytes_written None = Some []
bytes_written (Some word) = bytes_of word

-- how often the line is made
abbrev pub times_written : Option (List ℕ) → Option ℕ
times_written None = Some 1
times_written (Some word) = repeat_of word

-- the register of a word; one that isn't written is 0
abbrev pub register_written : Option (List ℕ) → ℕ
register_written None = 0
register_written (Some word) = unwrap_or (register_of word) 0

-- nine registers, x0 first
abbrev pub registers_of : List (List ℕ) → List ℕ
registers_of words =
    register_written (slice_get words 0) ∷ register_written (slice_get words 1)
    ∷ register_written (slice_get words 2)
    ∷ register_written (slice_get words 3) ∷ register_written (slice_get words 4)
    ∷ register_written (slice_get words 5)
    ∷ register_written (slice_get words 6) ∷ register_written (slice_get words 7)
    ∷ register_written (slice_get words 8) ∷ []

-- the line with these registers, where its bytes and its repeat are well written
abbrev pub line_with : List ℕ → Option (List ℕ) → Option ℕ → Option Line
line_with x None times = None
line_with x (Some bytes) None = None
line_with x (Some bytes) (Some times) =
    Some (record { frame = record { x = x; bytes = bytes }; times = times })

-- the line with these registers and what stands behind them
abbrev pub line_behind : List ℕ → Option Tail → Option Line
line_behind x None = None
line_behind x (Some tail) = line_with x (bytes_written tail.bytes) (times_written tail.repeat)

-- the words that are registers, from the first on
abbrev pub register_words : List (List ℕ) → List (List ℕ)
register_words words = take_while is_register words

-- the words behind the registers
abbrev pub tail_words : List (List ℕ) → List (List ℕ)
tail_words words = drop (prefix_len is_register words) words

-- 1 to 9 registers and what stands behind them
abbrev pub line_of_words : List (List ℕ) → Option Line
line_of_words words =
    if nat_le 1 (prefix_len is_register words) && nat_le (prefix_len is_register words) 9
    then line_behind (registers_of (register_words words)) (tail_of (tail_words words))
    else None

-- what a line reads as, its line feed aside: words with one space between them, at most thirteen
abbrev pub line_of : List ℕ → Option Line
line_of text =
    if nat_le (count_by is_space text) 12 then line_of_words (slice_split is_space text) else None

-- what borrowed words hold
abbrev pub texts_of : List (Bor (List ℕ)) → List (List ℕ)
texts_of words = map (λ (word : Bor (List ℕ)). word.now) words
