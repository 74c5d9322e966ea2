-- What a line of a boot file reads as: its first word says which line it is, and the words behind
-- are numbers.
use Rattle.std.specs.Prelude.{◌==◌, ◌++◌, ◌^◌, ℕ, Bool, List, [], ◌∷◌, length}
use Rattle.std.specs.Prelude.{slice_index, nat_lt, Option, Some, None, find, if◌then◌else◌}
use Rattle.std.specs.Option.{option_and_then}
use Rattle.std.specs.Str.{bytes_eq}
use Rattle.gh_base.specs.declared.ids.Serial.{Serial}
use Rattle.gh_bootfile.specs.declared.keyword.Keyword.{Keyword}
use Rattle.gh_bootfile.specs.declared.keyword.Keyword.TheVariants as word
use Rattle.gh_bootfile.specs.Grammar.{keyword_text, parts_hold, parts_of}
use Rattle.gh_model.specs.Numeral.{number_of as numeral_of}
use Rattle.gh_model.specs.Pieces.{pieces_at}
use Rattle.gh_model.specs.declared.boot_line.BootLine.{BootLine}
use Rattle.gh_model.specs.declared.boot_line.BootLine.TheVariants as boot

-- all keywords
abbrev pub keywords : List Keyword
keywords =
    word.Pages ∷ word.Partition ∷ word.Cspace ∷ word.Addrspace ∷ word.Doorbell
    ∷ word.RootExtent
    ∷ word.Extent ∷ word.Msgqueue ∷ word.Map ∷ word.Cap ∷ word.Vm ∷ word.Rm
    ∷ word.Link ∷ []

-- the keyword has this text
abbrev pub has_text : List ℕ → Keyword → Bool
has_text text keyword = bytes_eq (keyword_text keyword) text

-- the keyword with this text
abbrev pub keyword_of : List ℕ → Option Keyword
keyword_of text = find (has_text text) keywords

-- the number, where it has at most 32 bits
abbrev pub with_bits : Option ℕ → Option ℕ
with_bits None = None
with_bits (Some number) = if nat_lt number (2 ^ 32) then Some number else None

-- a number in decimal: 1 to 10 digits, of which the first of several isn't 0
abbrev pub number_of : List ℕ → Option ℕ
number_of text = with_bits (numeral_of 10 10 text)

-- one number more behind those so far; no line has more than seven
abbrev pub with_number : List ℕ → Option ℕ → Option (List ℕ)
with_number numbers None = None
with_number numbers (Some number) =
    if length numbers == 7 then None else Some (numbers ++ number ∷ [])

-- the numbers of words, behind those so far
abbrev pub numbers_on : List ℕ → List (List ℕ) → Option (List ℕ)
numbers_on numbers [] = Some numbers
numbers_on numbers (text ∷ texts) =
    option_and_then (λ more. numbers_on more texts) (with_number numbers (number_of text))

-- the serial that is the number at a place
abbrev pub serial_at : List ℕ → ℕ → Serial
serial_at numbers at = record { 0 = slice_index numbers at }

-- the line of a keyword and its numbers
abbrev pub line_made : Keyword → List ℕ → BootLine
line_made word.Pages ns = boot.Pages (slice_index ns 0)
line_made word.Partition ns = boot.Partition (slice_index ns 0)
line_made word.Cspace ns = boot.Cspace (serial_at ns 0)
line_made word.Addrspace ns = boot.Addrspace (serial_at ns 0)
line_made word.Doorbell ns = boot.Doorbell (serial_at ns 0)
line_made word.RootExtent ns = boot.RootExtent (serial_at ns 0)
line_made word.Extent ns =
    boot.Extent (serial_at ns 0) (serial_at ns 1) (slice_index ns 2) (slice_index ns 3)
    (record { 0 = slice_index ns 4 }) (slice_index ns 5) (slice_index ns 6)
line_made word.Msgqueue ns = boot.Msgqueue (serial_at ns 0) (slice_index ns 1) (slice_index ns 2)
line_made word.Map ns =
    boot.Map (serial_at ns 0) (serial_at ns 1) (slice_index ns 2) (slice_index ns 3)
    (slice_index ns 4) (record { 0 = slice_index ns 5 })
line_made word.Cap ns =
    boot.Cap (serial_at ns 0) (slice_index ns 1) (serial_at ns 2) (record { 0 = slice_index ns 3 })
    (slice_index ns 4 == 1)
line_made word.Vm ns = boot.Vm (serial_at ns 0) (serial_at ns 1)
line_made word.Rm ns = boot.Rm (serial_at ns 0) (serial_at ns 1) (serial_at ns 2)
line_made word.Link ns =
    boot.Link (record { 0 = slice_index ns 0 }) (serial_at ns 1) (serial_at ns 2) (serial_at ns 3)

-- that line, where each of the numbers is within its field
abbrev pub line_from : Keyword → List ℕ → Option BootLine
line_from keyword ns =
    if parts_hold (parts_of keyword ns) then Some (line_made keyword ns) else None

-- the line of a keyword's text and of numbers' texts
abbrev pub line_of_words : List (List ℕ) → Option BootLine
line_of_words [] = None
line_of_words (text ∷ texts) =
    option_and_then
    (λ keyword. option_and_then (λ ns. line_from keyword ns) (numbers_on [] texts))
    (keyword_of text)

-- what a line reads as, without its line feed; none where it is no boot line
unfoldable pub line_of : List ℕ → Option BootLine
line_of bytes = line_of_words (pieces_at 32 bytes)
