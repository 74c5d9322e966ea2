-- How a text is read line by line.
use Rattle.std.proofs.Common.{◌≡◌, ℕ, ◌+◌, ◌-◌, ◌<◌, ◌≤◌, ◌==◌, Bool}
use Rattle.std.proofs.Common.{true, false, nat_le, List, [], ◌∷◌, ◌++◌, Option, Some}
use Rattle.std.proofs.Common.{None, length, ap, append-nil, arith, refl, if◌then◌else◌}
use Rattle.std.specs.List.{slice_split}
use Rattle.std.proofs.lemmas.List.Splits.{length-slice_split}
use Rattle.std.proofs.lemmas.List.Sums.{sum_by-cons}
use Rattle.std.proofs.lemmas.Bool.{leb-true}
use Rattle.std.proofs.lemmas.Grind.{common_steps}
use Rattle.gh_model.specs.declared.program.Line.{Line}
use Rattle.gh_callfile.specs.Grammar.{line_of}
use Rattle.gh_callfile.specs.CallFile.{Reading, Good, BadAt, calls_of_lines, is_line_feed}
use Rattle.gh_callfile.specs.CallFile.{calls_of, line_then, with_lines, read_from}

step_of : (number room : ℕ) (text : List ℕ) (pieces : List (List ℕ))
    → 0 < length pieces
    → read_from number room (text ∷ pieces)
    ≡ line_then number room (line_of text)
    (read_from (number + 1) (room - calls_of (line_of text)) pieces)
unfolding read_from
step_of number room text [] some = absurd (omega arith)
step_of number room text (next ∷ pieces) some = refl

-- a line that ends is read before what stands behind it
pub read_step : (number room : ℕ) (text rest : List ℕ)
    → read_from number room (text ∷ slice_split is_line_feed rest)
    ≡ line_then number room (line_of text)
    (read_from (number + 1) (room - calls_of (line_of text)) (slice_split is_line_feed rest))
read_step number room text rest =
    step_of number room text (slice_split is_line_feed rest) (omega (arith, length-slice_split is_line_feed rest))

-- what stands behind the last line feed
pub read_last : (number room : ℕ) (last : List ℕ) → read_from number room (last ∷ []) ≡ (if length last == 0 then Good [] else BadAt number)
unfolding read_from
read_last number room last = refl

pub with_lines_twice : (lines more : List Line) (later : Reading) → with_lines lines (with_lines more later) ≡ with_lines (lines ++ more) later
with_lines_twice lines more (Good last) = grind (arith, common_steps)
with_lines_twice lines more (BadAt number) = refl

-- where nothing stands behind the last line feed, the lines so far are the file's
pub read_to_end : (lines : List Line) (number room : ℕ) (rest : List ℕ)
    → slice_split is_line_feed rest ≡ rest ∷ []
    → (length rest == 0) ≡ true
    → with_lines lines (read_from number room (slice_split is_line_feed rest)) ≡ Good lines
unfolding read_from
read_to_end lines number room rest one none = rw (one, none) (ap Good (append-nil lines))

-- a line that is good has room, and so have those behind it
within_step : (number room : ℕ) (found : Option Line) (later : Reading) (lines : List Line)
    → ((more : List Line) → later ≡ Good more → calls_of_lines more ≤ room - calls_of found)
    → line_then number room found later ≡ Good lines → calls_of_lines lines ≤ room
within_step number room None later lines behind good = cc
within_step number room (Some line) later lines behind good = go (nat_le line.times room) refl good where
  whole : (read : Reading) → line.times ≤ room → ((more : List Line) → read ≡ Good more → calls_of_lines more ≤ room - line.times)
      → with_lines (line ∷ []) read ≡ Good lines → calls_of_lines lines ≤ room
  whole (Good more) fits rest said =
      let same : lines ≡ line ∷ more = cc in
      let small : calls_of_lines more ≤ room - line.times = rest more refl in
      let sum : calls_of_lines (line ∷ more) ≡ line.times + calls_of_lines more = sum_by-cons (λ (one : Line). one.times) line more in
      rw (same, sum) (omega arith)
  whole (BadAt at) fits rest said = cc

  go : (b : Bool) → nat_le line.times room ≡ b
      → (if b then with_lines (line ∷ []) later else BadAt number) ≡ Good lines → calls_of_lines lines ≤ room
  go true fits said = whole later (leb-true line.times room fits) behind said
  go false fits said = cc

-- the calls of a good file are within the room
pub calls_within : (number room : ℕ) (pieces : List (List ℕ)) (lines : List Line) → read_from number room pieces ≡ Good lines → calls_of_lines lines ≤ room
unfolding read_from
calls_within number room [] lines good = let same : lines ≡ [] = cc in rw same (omega arith)
calls_within number room (last ∷ []) lines good = go (length last == 0) good where
  go : (b : Bool) → (if b then Good [] else BadAt number) ≡ Good lines → calls_of_lines lines ≤ room
  go true said = let same : lines ≡ [] = cc in rw same (omega arith)
  go false said = cc
calls_within number room (text ∷ (next ∷ pieces)) lines good =
    within_step number room (line_of text) _ lines (calls_within (number + 1) (room - calls_of (line_of text)) (next ∷ pieces)) good
