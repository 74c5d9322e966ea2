-- How values and lines of a call file are written: registers in hexadecimal, bytes as two digits
-- each, a repeat in decimal.
use Rattle.std.specs.Prelude.{◌≡◌, ◌≤◌, ◌<◌, ◌^◌, ◌++◌, ℕ, List, []}
use Rattle.std.specs.Prelude.{◌∷◌, false, length, map, Option, Some, None, slice_index}
use Rattle.std.specs.Fmt.{decimal, digits}
use Rattle.std.specs.List.{flat_map}
use Rattle.hex.specs.Hex.{encode_lower}
use Rattle.gh_model.specs.declared.program.Line.{Line}
use Rattle.gh_callfile.specs.Spelling.{Written, spelled, Spells}

-- a register: lower-case hexadecimal digits without leading zeros
abbrev pub register_text : ℕ → List ℕ
register_text register = digits 16 false register

-- bytes, where there are some
abbrev pub bytes_text : List ℕ → Option (List ℕ)
bytes_text [] = None
bytes_text (byte ∷ bytes) = Some (encode_lower (byte ∷ bytes))

-- the words of a line: all nine registers, its bytes, and how often it is made
abbrev pub written_of : Line → Written
written_of line = record {
  registers = map register_text line.frame.x;
  bytes = bytes_text line.frame.bytes;
  repeat = Some (decimal line.times);
}

-- a line with its line feed
abbrev pub ended_line : Line → List ℕ
ended_line line = spelled (written_of line) ++ 10 ∷ []

-- a call file of these lines
abbrev pub file_text : List Line → List ℕ
file_text lines = flat_map ended_line lines

-- numbers that fit: nine registers of 64 bits, bytes up to 14,620 of them, 1 to 65,536 times
pub record IsWritable (line : Line) : Type 0 where
  pub nine : length line.frame.x ≡ 9
  pub registers : (k : ℕ) → slice_index line.frame.x k < 2 ^ 64
  pub few_bytes : length line.frame.bytes ≤ 14620
  pub are_bytes : (k : ℕ) → slice_index line.frame.bytes k < 256
  pub some_times : 1 ≤ line.times
  pub few_times : line.times ≤ 65536

-- the texts spell the lines, one by one
pub data SpellLines : List (List ℕ) → List Line → Type 0 where
  NoLines : SpellLines [] []
  OneMore : {text : List ℕ} {texts : List (List ℕ)} {line : Line} {lines : List Line}
      → Spells text line → SpellLines texts lines
      → SpellLines (text ∷ texts) (line ∷ lines)

-- a file's text: texts that spell its lines, each with its line feed
pub record SpellsFile (text : List ℕ) (lines : List Line) : Type 0 where
  pub texts : List (List ℕ)
  pub spell : SpellLines texts lines
  pub its_text : text ≡ flat_map (λ (line : List ℕ). line ++ 10 ∷ []) texts
