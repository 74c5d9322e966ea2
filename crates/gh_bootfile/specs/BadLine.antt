-- What a file's first bad line is, apart from any reader.
use Rattle.std.specs.Prelude.{◌≡◌, ◌&&◌, ◌++◌, ◌⊎◌, ℕ}
use Rattle.std.specs.Prelude.{Bool, true, false, List, [], ◌∷◌, codes}
use Rattle.std.specs.List.{flat_map, list_all}
use Rattle.gh_model.specs.declared.boot_line.BootLine.{BootLine}
use Rattle.gh_model.specs.Told.{told_number}
use Rattle.gh_bootfile.specs.BootFile.{next_number}
use Rattle.gh_bootfile.specs.Draft.{next_fits, is_whole}
use Rattle.gh_bootfile.specs.Grammar.{ended_line, fields_hold, format_line}

-- each of the lines fits behind those before it
unfoldable pub fit_in_turn : List BootLine → List BootLine → Bool
fit_in_turn before [] = true
fit_in_turn before (line ∷ lines) =
    next_fits before line && fit_in_turn (before ++ line ∷ []) lines

-- behind these lines the rest of the file is bad
pub record IsBadBehind (lines : List BootLine) (rest : List ℕ) : Type 0 where
  -- no line that fits stands at its front
  pub no_line :
      (line : BootLine) (after : List ℕ) → fields_hold line ≡ true
      → rest ≡ ended_line line ++ after → next_fits lines line ≡ false
  -- and the file isn't whole, if it ends there
  pub no_end : rest ≡ [] → is_whole lines ≡ false

-- behind the lines before it the text goes on with lines that fit, and then is bad, at the line of
-- this number
pub record IsBadAt (before : List BootLine) (text : List ℕ) (number : ℕ) : Type 0 where
  pub lines : List BootLine
  pub rest : List ℕ
  pub text_is : text ≡ flat_map ended_line lines ++ rest
  pub hold : list_all fields_hold lines ≡ true
  pub fit : fit_in_turn before lines ≡ true
  pub bad : IsBadBehind (before ++ lines) rest
  pub number_is : number ≡ next_number (before ++ lines)

-- the text doesn't begin with the line of the format
pub record HasNoFormat (text : List ℕ) (number : ℕ) : Type 0 where
  pub no_format : (rest : List ℕ) → text ≡ format_line ++ (codes "\n" ++ rest) → ⊥
  pub number_is : number ≡ 1

-- behind the line of the format the text has its first bad line
pub record HasBadLine (text : List ℕ) (number : ℕ) : Type 0 where
  pub lines_text : List ℕ
  pub text_is : text ≡ format_line ++ (codes "\n" ++ lines_text)
  pub bad : IsBadAt [] lines_text number

-- the line of this number is the first bad one
abbrev pub IsFirstBad : List ℕ → ℕ → Type 0
IsFirstBad text number = HasNoFormat text number ⊎ HasBadLine text number

-- a reader told this number: that of the first bad line, which stands still at the largest of 32
-- bits
pub record TellsFirstBad (text : List ℕ) (told : ℕ) : Type 0 where
  pub number : ℕ
  pub first : IsFirstBad text number
  pub told_is : told ≡ told_number number
