-- How a call line is written: words with one space between them.
use Rattle.std.specs.Prelude.{◌≡◌, ◌≤◌, ◌++◌, ℕ, true, List}
use Rattle.std.specs.Prelude.{[], ◌∷◌, length, Option, Some, None, is_some}
use Rattle.std.specs.List.{join_with_byte, list_all}
use Rattle.gh_model.specs.declared.program.Line.{Line}
use Rattle.gh_callfile.specs.Grammar.{is_register, bytes_written}
use Rattle.gh_callfile.specs.Grammar.{times_written, registers_of, line_with}

-- the words that a line is written with: its registers, and the words of its bytes and of its
-- repeat where it has them
pub record Written : Type 0 where
  pub registers : List (List ℕ)
  pub bytes : Option (List ℕ)
  pub repeat : Option (List ℕ)

-- a word behind its mark
abbrev pub marked : ℕ → Option (List ℕ) → List (List ℕ)
marked mark None = []
marked mark (Some word) = (mark ∷ []) ∷ (word ∷ [])

-- the registers, then a colon and bytes, then a star and a repeat
abbrev pub written_words : Written → List (List ℕ)
written_words written = written.registers ++ (marked 58 written.bytes ++ marked 42 written.repeat)

-- the text of a line, without its line feed
abbrev pub spelled : Written → List ℕ
spelled written = join_with_byte 32 (written_words written)

-- 1 to 9 registers, and bytes and a repeat of their forms
pub record IsWellWritten (written : Written) : Type 0 where
  pub some_registers : 1 ≤ length written.registers
  pub few_registers : length written.registers ≤ 9
  pub are_registers : list_all is_register written.registers ≡ true
  pub has_bytes : is_some (bytes_written written.bytes) ≡ true
  pub has_times : is_some (times_written written.repeat) ≡ true

-- what the words mean
abbrev pub meant : Written → Option Line
meant written =
    line_with (registers_of written.registers) (bytes_written written.bytes)
    (times_written written.repeat)

-- a text is a well written line that means this
pub record Spells (text : List ℕ) (line : Line) : Type 0 where
  pub written : Written
  pub well_written : IsWellWritten written
  pub its_text : spelled written ≡ text
  pub its_line : meant written ≡ Some line
