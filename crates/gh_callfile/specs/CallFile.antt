-- What a call file reads as: its lines in order, or its first bad line.
use Rattle.std.specs.Prelude.{◌≡◌, ◌==◌, ◌+◌, ◌-◌, ℕ, Bool, List, [], ◌∷◌}
use Rattle.std.specs.Prelude.{◌++◌, length, nat_le, Option, Some, None, if◌then◌else◌}
use Rattle.std.specs.Bool.{⊤}
use Rattle.std.specs.List.{slice_split, sum_by}
use Rattle.gh_model.specs.declared.file_err.FileErr.{FileErr}
use Rattle.gh_model.specs.declared.file_err.FileErr.TheVariants.{Bad, NoMemory}
use Rattle.gh_model.specs.declared.program.Line.{Line}
use Rattle.gh_model.specs.Told.{told_number}
use Rattle.gh_callfile.specs.Grammar.{line_of}

-- the byte is a line feed
abbrev pub is_line_feed : ℕ → Bool
is_line_feed byte = byte == 10

-- a file is good and has these lines, or the line of this number is its first bad one
pub data Reading : Type 0 where
  Good : List Line → Reading
  BadAt : ℕ → Reading

-- lines before those that are read from here on
abbrev pub with_lines : List Line → Reading → Reading
with_lines lines (Good more) = Good (lines ++ more)
with_lines lines (BadAt number) = BadAt number

-- a line counts as often as it may be made
abbrev pub calls_of : Option Line → ℕ
calls_of None = 0
calls_of (Some line) = line.times

-- a line of this number, and those behind it: it is good where it is a call line for which there
-- is room
abbrev pub line_then : ℕ → ℕ → Option Line → Reading → Reading
line_then number room None later = BadAt number
line_then number room (Some line) later =
    if nat_le line.times room then with_lines (line ∷ []) later else BadAt number

-- the lines from this number on, with room for so many calls: the last piece stands behind the last
-- line feed, and is good where it is empty
unfoldable pub read_from : ℕ → ℕ → List (List ℕ) → Reading
read_from number room [] = Good []
read_from number room (last ∷ []) = if length last == 0 then Good [] else BadAt number
read_from number room (text ∷ (next ∷ pieces)) =
    line_then number room (line_of text)
    (read_from (number + 1) (room - calls_of (line_of text)) (next ∷ pieces))

-- a bad line's number is told as one of 32 bits
abbrev pub told_reading : Reading → Reading
told_reading (Good lines) = Good lines
told_reading (BadAt number) = BadAt (told_number number)

-- a text that may have so many calls: its lines are counted from 1
abbrev pub reading : List ℕ → ℕ → Reading
reading text room = told_reading (read_from 1 room (slice_split is_line_feed text))

-- the error carries the first bad line; want of memory says nothing of the text
abbrev pub IsErrorOf : Reading → FileErr → Type 0
IsErrorOf reading (Bad number) = reading ≡ BadAt number
IsErrorOf reading NoMemory = ⊤

-- the calls of lines, repeats counted
abbrev pub calls_of_lines : List Line → ℕ
calls_of_lines lines = sum_by (λ (line : Line). line.times) lines
