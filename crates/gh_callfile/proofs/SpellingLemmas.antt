-- What is read as a line is spelled by its words, and each well written line is read as what it
-- means.
use Rattle.std.proofs.Common.{◌≡◌, ℕ, ◌+◌, ◌<◌, ◌≤◌, ◌&&◌, Bool}
use Rattle.std.proofs.Common.{true, false, nat_le, List, [], ◌∷◌, ◌++◌, Option}
use Rattle.std.proofs.Common.{Some, None, is_some, length, take, drop, ap, sym, ◌∙◌}
use Rattle.std.proofs.Common.{arith, refl, zero, suc, count_by, slice_index_or, length-append}
use Rattle.std.specs.List.{join_with_byte, list_all, prefix_len, slice_split, All}
use Rattle.std.proofs.lemmas.Bool.{eqb-true, leb-true, le-leb}
use Rattle.std.proofs.lemmas.List.Splits.{length-slice_split, slice_split_at}
use Rattle.std.proofs.lemmas.List.Splits.{slice_split_none, join_with_byte-slice_split}
use Rattle.std.proofs.lemmas.List.{take-append-drop}
use Rattle.std.proofs.lemmas.List.Folds.{length-prefix_len}
use Rattle.std.proofs.lemmas.List.Sums.{AllPass-from_list_all}
use Rattle.std.proofs.Math.Seq.{take-append_seam, drop-append_seam}
use Rattle.gh_model.specs.declared.program.Line.{Line}
use Rattle.gh_model.specs.Numeral.{is_digit, is_numeral}
use Rattle.gh_callfile.specs.Grammar.{is_space, is_register, is_bytes, bytes_of}
use Rattle.gh_callfile.specs.Grammar.{repeat_of, is_mark, bytes_written, times_written}
use Rattle.gh_callfile.specs.Grammar.{registers_of, line_of, line_of_words, line_behind}
use Rattle.gh_callfile.specs.Grammar.{line_with, one_part, two_parts, tail_of}
use Rattle.gh_callfile.specs.Spelling.{Written, marked, written_words, spelled}
use Rattle.gh_callfile.specs.Spelling.{IsWellWritten, meant, Spells}

-- both sides of an && hold
both : (a b : Bool) → (a && b) ≡ true → (a ≡ true) × (b ≡ true)
both true b said = (refl, said)
both false b said = cc

-- a mark is one byte
mark_is : (mark : ℕ) (word : List ℕ) → is_mark mark word ≡ true → word ≡ mark ∷ []
mark_is mark [] said = cc
mark_is mark (byte ∷ []) said = ap (λ (b : ℕ). b ∷ []) (eqb-true byte mark said)
mark_is mark (byte ∷ (more ∷ bytes)) said =
    absurd (let one = eqb-true (length (byte ∷ (more ∷ bytes))) 1 (both _ _ said).0 in omega arith)

-- a line is made of registers, bytes and a repeat, each of which is there
has_parts : (x : List ℕ) (bytes : Option (List ℕ)) (times : Option ℕ) (line : Line) → line_with x bytes times ≡ Some line → (is_some bytes ≡ true) × (is_some times ≡ true)
has_parts x None times line said = cc
has_parts x (Some bytes) None line said = cc
has_parts x (Some bytes) (Some times) line said = (refl, refl)

-- the words behind the registers of a line
record Behind (x : List ℕ) (words : List (List ℕ)) (line : Line) : Type 0 where
  bytes : Option (List ℕ)
  repeat : Option (List ℕ)
  its_words : words ≡ marked 58 bytes ++ marked 42 repeat
  its_line : line_with x (bytes_written bytes) (times_written repeat) ≡ Some line

behind_one : (x mark word : List ℕ) (line : Line) (colon star : Bool) → is_mark 58 mark ≡ colon → is_mark 42 mark ≡ star
    → line_behind x (one_part mark word) ≡ Some line → Behind x (mark ∷ (word ∷ [])) line
behind_one x mark word line true star is_colon is_star said =
    let same : mark ≡ 58 ∷ [] = mark_is 58 mark is_colon in
    record { bytes = Some word; repeat = None; its_words = cc; its_line = rw is_colon at said }
behind_one x mark word line false true is_colon is_star said =
    let same : mark ≡ 42 ∷ [] = mark_is 42 mark is_star in
    record { bytes = None; repeat = Some word; its_words = cc; its_line = rw (is_colon, is_star) at said }
behind_one x mark word line false false is_colon is_star said = absurd (let wrong = rw (is_colon, is_star) at said in cc)

behind_two : (x colon bytes star repeat : List ℕ) (line : Line) (first second : Bool) → is_mark 58 colon ≡ first → is_mark 42 star ≡ second
    → line_behind x (two_parts colon bytes star repeat) ≡ Some line → Behind x (colon ∷ (bytes ∷ (star ∷ (repeat ∷ [])))) line
behind_two x colon bytes star repeat line true true is_colon is_star said =
    let one : colon ≡ 58 ∷ [] = mark_is 58 colon is_colon in
    let two : star ≡ 42 ∷ [] = mark_is 42 star is_star in
    record { bytes = Some bytes; repeat = Some repeat; its_words = cc; its_line = rw (is_colon, is_star) at said }
behind_two x colon bytes star repeat line true false is_colon is_star said = absurd (let wrong = rw (is_colon, is_star) at said in cc)
behind_two x colon bytes star repeat line false second is_colon is_star said = absurd (let wrong = rw is_colon at said in cc)

behind : (x : List ℕ) (words : List (List ℕ)) (line : Line) → line_behind x (tail_of words) ≡ Some line → Behind x words line
behind x [] line said = record { bytes = None; repeat = None; its_words = refl; its_line = said }
behind x (mark ∷ []) line said = absurd cc
behind x (mark ∷ (word ∷ [])) line said = behind_one x mark word line (is_mark 58 mark) (is_mark 42 mark) refl refl said
behind x (mark ∷ (word ∷ (next ∷ []))) line said = absurd cc
behind x (colon ∷ (bytes ∷ (star ∷ (repeat ∷ [])))) line said =
    behind_two x colon bytes star repeat line (is_mark 58 colon) (is_mark 42 star) refl refl said
behind x (colon ∷ (bytes ∷ (star ∷ (repeat ∷ (more ∷ words))))) line said = absurd cc

-- the words before the first that is no register are registers
front_step : (word : List ℕ) (words : List (List ℕ)) (b : Bool) → is_register word ≡ b
    → list_all is_register (take (prefix_len is_register words) words) ≡ true
    → list_all is_register (take (prefix_len is_register (word ∷ words)) (word ∷ words)) ≡ true
front_step word words true is_one front =
    let one : 1 + prefix_len is_register words ≡ suc (prefix_len is_register words) = omega arith in
    rw (is_one, one, is_one) front
front_step word words false is_one front = rw is_one refl

front_passes : (words : List (List ℕ)) → list_all is_register (take (prefix_len is_register words) words) ≡ true
front_passes [] = refl
front_passes (word ∷ words) = front_step word words (is_register word) refl (front_passes words)

-- words that are a well written line's
record SpellsWords (words : List (List ℕ)) (line : Line) : Type 0 where
  written : Written
  well_written : IsWellWritten written
  its_words : written_words written ≡ words
  its_line : meant written ≡ Some line

by_count : (words : List (List ℕ)) (line : Line) (first second : Bool)
    → nat_le 1 (prefix_len is_register words) ≡ first → nat_le (prefix_len is_register words) 9 ≡ second
    → line_of_words words ≡ Some line → SpellsWords words line
by_count words line true true some few said =
    let read : line_behind (registers_of (take (prefix_len is_register words) words)) (tail_of (drop (prefix_len is_register words) words)) ≡ Some line = rw (some, few) at said in
    let rest : Behind (registers_of (take (prefix_len is_register words) words)) (drop (prefix_len is_register words) words) line = behind _ _ line read in
    let parts : (is_some (bytes_written rest.bytes) ≡ true) × (is_some (times_written rest.repeat) ≡ true) = has_parts _ _ _ line rest.its_line in
    let count = length-prefix_len is_register words in
    record {
      written = record { registers = take (prefix_len is_register words) words; bytes = rest.bytes; repeat = rest.repeat };
      well_written = record {
        some_registers = rw count (leb-true _ _ some);
        few_registers = rw count (leb-true _ _ few);
        are_registers = front_passes words;
        has_bytes = parts.0;
        has_times = parts.1;
      };
      its_words = rw (← rest.its_words) (take-append-drop (prefix_len is_register words) words);
      its_line = rest.its_line;
    }
by_count words line true false some few said = absurd (let wrong = rw (some, few) at said in cc)
by_count words line false second some few said = absurd (let wrong = rw some at said in cc)

by_words : (words : List (List ℕ)) (line : Line) → line_of_words words ≡ Some line → SpellsWords words line
by_words words line said = by_count words line _ _ refl refl said

-- what is read as a line is spelled by its words
by_spaces : (text : List ℕ) (line : Line) (few : Bool) → nat_le (count_by is_space text) 12 ≡ few → line_of text ≡ Some line → Spells text line
by_spaces text line true few said =
    let words = by_words (slice_split is_space text) line (rw few at said) in
    record {
      written = words.written;
      well_written = words.well_written;
      its_text = ap (join_with_byte 32) words.its_words ∙ join_with_byte-slice_split 32 text;
      its_line = words.its_line;
    }
by_spaces text line false few said = absurd (let wrong = rw few at said in cc)

pub read_is_spelled : (text : List ℕ) (line : Line) → line_of text ≡ Some line → Spells text line
read_is_spelled text line said = by_spaces text line _ refl said

-- a word without spaces
abbrev IsFree : List ℕ → Type 0
IsFree word = All (λ b. is_space b ≡ false) word

-- words without spaces
data AreFree : List (List ℕ) → Type 0 where
  no_words : AreFree []
  more : (word : List ℕ) (words : List (List ℕ)) → IsFree word → AreFree words → AreFree (word ∷ words)

digit_is_free : (radix byte : ℕ) (b : Bool) → is_space byte ≡ b → is_digit radix byte ≡ true → is_space byte ≡ false
digit_is_free radix byte true is_one said = absurd (let same : byte ≡ 32 = eqb-true byte 32 is_one in let wrong = rw same at said in cc)
digit_is_free radix byte false is_one said = is_one

digits_are_free : (radix : ℕ) (word : List ℕ) → list_all (is_digit radix) word ≡ true → IsFree word
digits_are_free radix word said =
    λ k d within. digit_is_free radix _ _ refl (AllPass-from_list_all (is_digit radix) word said k d within)

numeral_is_free : (radix : ℕ) (word : List ℕ) → is_numeral radix word ≡ true → IsFree word
numeral_is_free radix word said = digits_are_free radix word (both _ _ said).1

register_is_free : (word : List ℕ) → is_register word ≡ true → IsFree word
register_is_free word said = numeral_is_free 16 word (both _ _ said).1

bytes_are_free : (word : List ℕ) (b : Bool) → is_bytes word ≡ b → is_some (bytes_of word) ≡ true → IsFree word
bytes_are_free word true form said = digits_are_free 16 word (both _ _ form).1
bytes_are_free word false form said = absurd (let wrong = rw form at said in cc)

number_is_free : (word : List ℕ) (b : Bool) → (nat_le (length word) 5 && is_numeral 10 word) ≡ b → is_some (repeat_of word) ≡ true → IsFree word
number_is_free word true form said = numeral_is_free 10 word (both _ _ form).1
number_is_free word false form said = absurd (let wrong = rw form at said in cc)

-- a mark is free of spaces
mark_is_free : (mark : ℕ) → is_space mark ≡ false → IsFree (mark ∷ [])
mark_is_free mark free = λ k d within. one k d within where
  one : (k d : ℕ) → k < 1 → is_space (slice_index_or (mark ∷ []) k d) ≡ false
  one zero d within = free
  one (suc k) d within = absurd (omega arith)

-- the words behind the registers are free of spaces
repeat_words_free : (repeat : Option (List ℕ)) → is_some (times_written repeat) ≡ true → AreFree (marked 42 repeat)
repeat_words_free None said = no_words
repeat_words_free (Some word) said =
    more (42 ∷ []) (word ∷ []) (mark_is_free 42 refl) (more word [] (number_is_free word _ refl said) no_words)

tail_words_free : (bytes repeat : Option (List ℕ)) → is_some (bytes_written bytes) ≡ true → is_some (times_written repeat) ≡ true → AreFree (marked 58 bytes ++ marked 42 repeat)
tail_words_free None repeat said times = repeat_words_free repeat times
tail_words_free (Some word) repeat said times =
    more (58 ∷ []) (word ∷ marked 42 repeat) (mark_is_free 58 refl) (more word (marked 42 repeat) (bytes_are_free word _ refl said) (repeat_words_free repeat times))

registers_free : (words tail : List (List ℕ)) → list_all is_register words ≡ true → AreFree tail → AreFree (words ++ tail)
registers_free [] tail said free = free
registers_free (word ∷ words) tail said free =
    let parts = both (is_register word) (list_all is_register words) said in
    more word (words ++ tail) (register_is_free word parts.0) (registers_free words tail parts.1 free)

-- words without spaces, joined by spaces, split into themselves
split_joined : (word : List ℕ) (words : List (List ℕ)) → AreFree (word ∷ words) → slice_split is_space (join_with_byte 32 (word ∷ words)) ≡ word ∷ words
split_joined word [] (more _ _ free others) = slice_split_none is_space word free
split_joined word (next ∷ words) (more _ _ free others) =
    slice_split_at is_space word 32 (join_with_byte 32 (next ∷ words)) free refl ∙ ap (λ (ws : List (List ℕ)). word ∷ ws) (split_joined next words others)

-- the registers are counted to the first word that is none
counted_step : (word : List ℕ) (words tail : List (List ℕ)) → is_register word ≡ true → prefix_len is_register (words ++ tail) ≡ length words
    → prefix_len is_register ((word ∷ words) ++ tail) ≡ length (word ∷ words)
counted_step word words tail is_one count = rw (is_one, count) (omega arith)

counted : (words tail : List (List ℕ)) → list_all is_register words ≡ true → prefix_len is_register tail ≡ 0 → prefix_len is_register (words ++ tail) ≡ length words
counted [] tail said none = none
counted (word ∷ words) tail said none =
    let parts = both (is_register word) (list_all is_register words) said in
    counted_step word words tail parts.0 (counted words tail parts.1 none)

no_register_behind : (bytes repeat : Option (List ℕ)) → prefix_len is_register (marked 58 bytes ++ marked 42 repeat) ≡ 0
no_register_behind None None = refl
no_register_behind None (Some word) = refl
no_register_behind (Some word) repeat = refl

tail_reads : (bytes repeat : Option (List ℕ)) → tail_of (marked 58 bytes ++ marked 42 repeat) ≡ Some (record { bytes = bytes; repeat = repeat })
tail_reads None None = refl
tail_reads None (Some word) = refl
tail_reads (Some word) None = refl
tail_reads (Some word) (Some times) = refl

few_behind : (bytes repeat : Option (List ℕ)) → length (marked 58 bytes ++ marked 42 repeat) ≤ 4
few_behind None None = omega arith
few_behind None (Some word) = omega arith
few_behind (Some word) None = omega arith
few_behind (Some word) (Some times) = omega arith

-- the words of a well written line read as what they mean
words_read : (written : Written) → IsWellWritten written → line_of_words (written_words written) ≡ meant written
words_read written well =
    let tail = marked 58 written.bytes ++ marked 42 written.repeat in
    let count : prefix_len is_register (written_words written) ≡ length written.registers = counted written.registers tail well.are_registers (no_register_behind written.bytes written.repeat) in
    let some : nat_le 1 (length written.registers) ≡ true = le-leb _ _ well.some_registers in
    let few : nat_le (length written.registers) 9 ≡ true = le-leb _ _ well.few_registers in
    rw (count, some, few, take-append_seam written.registers tail, drop-append_seam written.registers tail, tail_reads written.bytes written.repeat) refl

text_splits : (registers tail : List (List ℕ)) → 1 ≤ length registers → AreFree (registers ++ tail) → slice_split is_space (join_with_byte 32 (registers ++ tail)) ≡ registers ++ tail
text_splits [] tail some free = absurd (omega arith)
text_splits (word ∷ words) tail some free = split_joined word (words ++ tail) free

-- each well written line is read as what it means
pub spelled_is_read : (written : Written) → IsWellWritten written → line_of (spelled written) ≡ meant written
spelled_is_read written well =
    let tail = marked 58 written.bytes ++ marked 42 written.repeat in
    let free : AreFree (written_words written) = registers_free written.registers tail well.are_registers (tail_words_free written.bytes written.repeat well.has_bytes well.has_times) in
    let split : slice_split is_space (spelled written) ≡ written_words written = text_splits written.registers tail well.some_registers free in
    let pieces : length (written_words written) ≡ count_by is_space (spelled written) + 1 = ap length (sym split) ∙ length-slice_split is_space (spelled written) in
    let behind : length tail ≤ 4 = few_behind written.bytes written.repeat in
    let whole : length (written_words written) ≡ length written.registers + length tail = length-append written.registers tail in
    let few : nat_le (count_by is_space (spelled written)) 12 ≡ true = le-leb _ _ (omega (arith, well.few_registers)) in
    rw (few, split) (words_read written well)
