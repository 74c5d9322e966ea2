-- What a whole boot file reads as: its lines, or the number of its first bad line.
use Rattle.std.specs.Prelude.{◌≡◌, ◌==◌, ◌&&◌, ◌+◌, ◌++◌}
use Rattle.std.specs.Prelude.{ℕ, List, [], ◌∷◌, length, Option, Some}
use Rattle.std.specs.Prelude.{None, Result, Ok, Err, if◌then◌else◌}
use Rattle.std.specs.Str.{bytes_eq}
use Rattle.gh_model.specs.declared.boot_line.BootLine.{BootLine}
use Rattle.gh_model.specs.declared.file_err.FileErr.{FileErr}
use Rattle.gh_model.specs.declared.file_err.FileErr.TheVariants as errors
use Rattle.gh_model.specs.Told.{told_number}
use Rattle.gh_bootfile.specs.Draft.{next_fits, is_whole}
use Rattle.gh_bootfile.specs.Grammar.{format_line}
use Rattle.gh_bootfile.specs.Reading.{line_of}
use Rattle.gh_model.specs.Pieces.{pieces_at}

-- the number of the line that comes behind these and the line of the format
abbrev pub next_number : List BootLine → ℕ
next_number lines = length lines + 2

-- the lines with one more, where it reads as a boot line that fits
unfoldable pub with_line : List BootLine → Option BootLine → Result (List BootLine) ℕ
with_line lines None = Err (next_number lines)
with_line lines (Some line) =
    if next_fits lines line then Ok (lines ++ line ∷ []) else Err (next_number lines)

-- behind the last line feed nothing may stand, and the lines must be enough
unfoldable pub at_end : List BootLine → List ℕ → Result (List BootLine) ℕ
at_end lines left =
    if (length left == 0) && is_whole lines then Ok lines else Err (next_number lines)

-- what follows a reading, unless it found a fault
abbrev pub and_then :
    {A B Fault : Type 0} → Result A Fault → (A → Result B Fault) → Result B Fault
and_then (Ok value) next = next value
and_then (Err fault) next = Err fault

-- the pieces between line feeds, read one by one behind the lines so far. The last piece is what
-- stands behind the last line feed
unfoldable pub lines_on : List BootLine → List (List ℕ) → Result (List BootLine) ℕ
lines_on lines [] = Err (next_number lines)
lines_on lines (left ∷ []) = at_end lines left
lines_on lines (text ∷ next ∷ texts) =
    and_then (with_line lines (line_of text)) (λ more. lines_on more (next ∷ texts))

-- the first line is that of the format, and has its line feed
unfoldable pub file_of : List (List ℕ) → Result (List BootLine) ℕ
file_of [] = Err 1
file_of (left ∷ []) = Err 1
file_of (text ∷ next ∷ texts) =
    if bytes_eq text format_line then lines_on [] (next ∷ texts) else Err 1

-- the lines of a boot file behind the first, or the number of its first bad line, from 1
unfoldable pub boot_of : List ℕ → Result (List BootLine) ℕ
boot_of text = file_of (pieces_at 10 text)

-- what a reader answers

-- a line's number is told as one of 32 bits
abbrev pub told : {Y : Type 0} → Result Y ℕ → Result Y ℕ
told (Ok value) = Ok value
told (Err line) = Err (told_number line)

-- an error is want of memory, or the number of the bad line
abbrev pub Fails : {Y : Type 0} → FileErr → Result Y ℕ → Type 0
Fails errors.NoMemory read = Unit {0}
Fails (errors.Bad line) read = told read ≡ Err line

-- what a reader returns is what its text reads as, unless memory ran out
abbrev pub Answers : {X Y : Type 0} → (X → Y) → Result X FileErr → Result Y ℕ → Type 0
Answers view (Ok value) read = read ≡ Ok (view value)
Answers view (Err error) read = Fails error read
