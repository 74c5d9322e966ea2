-- The law on the first bad line: what the reader tells is what a bad line is.
use Rattle.std.proofs.Common.{◌≡◌, ◌≢◌, ne_eqb, ℕ, Bool, true, false}
use Rattle.std.proofs.Common.{◌&&◌, cond, eqb, List, [], ◌∷◌, ◌++◌}
use Rattle.std.proofs.Common.{length, Option, Some, None, Result, Ok, Err, refl, sym}
use Rattle.std.proofs.Common.{ap, subst, ◌∙◌, inl, inr, append_assoc, arith}
use Rattle.std.specs.Str.{bytes_eq}
use Rattle.std.proofs.lemmas.Bool.{both_ways}
use Rattle.std.proofs.lemmas.Slice.Eq.{bytes_eq-Decides}
use Rattle.gh_model.specs.declared.boot_line.BootLine.{BootLine}
use Rattle.gh_model.specs.declared.file_err.FileErr.{FileErr}
use Rattle.gh_model.specs.declared.file_err.FileErr.TheVariants as errors
use Rattle.gh_model.specs.Pieces.{pieces_at}
use Rattle.gh_bootfile.specs.BadLine.{IsBadBehind, IsBadAt, HasNoFormat, IsFirstBad, TellsFirstBad}
use Rattle.gh_bootfile.specs.BootFile.{Answers, and_then, at_end, boot_of}
use Rattle.gh_bootfile.specs.BootFile.{lines_on, next_number, told, with_line}
use Rattle.gh_bootfile.specs.Draft.{next_fits, is_whole}
use Rattle.gh_bootfile.specs.Grammar.{ended_line, format_line, line_text}
use Rattle.gh_bootfile.specs.Reading.{line_of}
use Rattle.gh_bootfile.proofs.LineLaw.{line_read, line_again}
use Rattle.gh_bootfile.proofs.WalkLaw.{Cut, Whole, At, cut, Pieces, pieces, Stops, AtEnd, AtLine}
use Rattle.gh_bootfile.proofs.WalkLaw.{file_step, file_end, first_line, format_first, lines_step}
use Rattle.gh_bootfile.proofs.WalkLaw.{lines_end, past_lines, refused, walk, walk_read}

with_line_some : (lines : List BootLine) (line : BootLine) (n : ℕ) → with_line lines (Some line) ≡ Err n → next_fits lines line ≡ false
unfolding with_line
with_line_some lines line n e = (refused (next_fits lines line) n (next_number lines) (lines ++ line ∷ []) e).0

-- two lists that are one begin alike
same_first : {A : Type 0} (x y : A) (xs ys : List A) → x ∷ xs ≡ y ∷ ys → x ≡ y
same_first x y xs ys e = cc

same_rest : {A : Type 0} (x y : A) (xs ys : List A) → x ∷ xs ≡ y ∷ ys → xs ≡ ys
same_rest x y xs ys e = cc

some_pieces : (texts : List (List ℕ)) → Pieces texts → [] ≡ texts → ⊥
some_pieces texts p e = cc p.are

at_end_err : (before : List BootLine) (left : List ℕ) (n : ℕ) → at_end before left ≡ Err n → ((eqb (length left) 0 && is_whole before) ≡ false) × (next_number before ≡ n)
unfolding at_end
at_end_err before left n e = refused (eqb (length left) 0 && is_whole before) n (next_number before) before e

same_error : (n m : ℕ) → (read : Result (List BootLine) ℕ) → read ≡ Err m → read ≡ Err n → n ≡ m
same_error n m read p q = cc

-- ---- what is told is the first bad line

-- where lines that fit stop, the rest is bad
bad_line : (lines : List BootLine) (rest line after : List ℕ) → pieces_at 10 rest ≡ line ∷ pieces_at 10 after → with_line lines (line_of line) ≡ Err (next_number lines) → IsBadBehind lines rest
bad_line lines rest line after e failed = record {
  no_line = λ other behind holds is.
      let same : line ∷ pieces_at 10 after ≡ line_text other ∷ pieces_at 10 behind = sym e ∙ ap (pieces_at 10) is ∙ first_line other behind holds in
      let text_is : line ≡ line_text other = same_first line (line_text other) (pieces_at 10 after) (pieces_at 10 behind) same in
      with_line_some lines other (next_number lines) (sym (ap (with_line lines) (ap line_of text_is ∙ line_again other holds)) ∙ failed);
  no_end = λ is. absurd (some_pieces (pieces_at 10 after) (pieces 10 after) (same_rest [] line [] (pieces_at 10 after) (sym (ap (pieces_at 10) is) ∙ e)));
}

bad_end : (lines : List BootLine) (rest : List ℕ) → pieces_at 10 rest ≡ rest ∷ [] → (eqb (length rest) 0 && is_whole lines) ≡ false → IsBadBehind lines rest
bad_end lines rest e test = record {
  no_line = λ other behind holds is.
      let same : rest ∷ [] ≡ line_text other ∷ pieces_at 10 behind = sym e ∙ ap (pieces_at 10) is ∙ first_line other behind holds in
      absurd (some_pieces (pieces_at 10 behind) (pieces 10 behind) (same_rest rest (line_text other) [] (pieces_at 10 behind) same));
  no_end = λ is. subst (λ (left : List ℕ). (eqb (length left) 0 && is_whole lines) ≡ false) is test;
}

bad_stop : (lines : List BootLine) (rest : List ℕ) (n : ℕ) → Stops lines rest → lines_on lines (pieces_at 10 rest) ≡ Err n → IsBadBehind lines rest × (n ≡ next_number lines)
bad_stop lines rest n (AtEnd e) failed =
    let test = at_end_err lines rest n (sym (lines_end lines rest rest e) ∙ failed) in
    (bad_end lines rest e test.0, sym test.1)
bad_stop lines rest n (AtLine line after e none) failed =
    let told_is : Err (next_number lines) ≡ Err n = sym (lines_step lines rest line after e ∙ ap (λ (r : Result (List BootLine) ℕ). and_then r (λ more. lines_on more (pieces_at 10 after))) none) ∙ failed in
    (bad_line lines rest line after e none, same_error n (next_number lines) (Err n) (sym told_is) refl)

lines_bad : (text : List ℕ) (n : ℕ) → lines_on [] (pieces_at 10 text) ≡ Err n → IsBadAt [] text n
lines_bad text n failed =
    let w = walk [] text in
    let stop = bad_stop w.lines w.rest n w.stops (sym (walk_read [] text w) ∙ failed) in
    record { lines = w.lines; rest = w.rest; text_is = w.text_is; hold = w.hold; fit = w.fit; bad = stop.0; number_is = stop.1 }

begun : (text line after : List ℕ) (n : ℕ) → pieces_at 10 text ≡ line ∷ pieces_at 10 after → text ≡ line ++ (10 ∷ after)
    → (format : Bool) → bytes_eq line format_line ≡ format → cond format (lines_on [] (pieces_at 10 after)) (Err 1) ≡ Err n → IsFirstBad text n
begun text line after n e text_is true is failed =
    inr (record {
      lines_text = after;
      text_is = text_is ∙ ap (λ (t : List ℕ). t ++ (10 ∷ after)) ((bytes_eq-Decides line format_line).0 is);
      bad = lines_bad after n failed;
    })
begun text line after n e text_is false is failed =
    inl (record {
      no_format = λ rest begins.
          let same : line ∷ pieces_at 10 after ≡ format_line ∷ pieces_at 10 rest = sym e ∙ ap (pieces_at 10) begins ∙ format_first rest in
          both_ways (bytes_eq line format_line) is ((bytes_eq-Decides line format_line).1 (same_first line format_line (pieces_at 10 after) (pieces_at 10 rest) same));
      number_is = same_error n 1 (Err 1) refl failed;
    })

file_bad : (text : List ℕ) (n : ℕ) → Cut text → boot_of text ≡ Err n → IsFirstBad text n
file_bad text n (Whole e) failed =
    inl (record {
      no_format = λ rest begins.
          let same : text ∷ [] ≡ format_line ∷ pieces_at 10 rest = sym e ∙ ap (pieces_at 10) begins ∙ format_first rest in
          some_pieces (pieces_at 10 rest) (pieces 10 rest) (same_rest text format_line [] (pieces_at 10 rest) same);
      number_is = same_error n 1 (boot_of text) (file_end text text e) failed;
    })
file_bad text n (At line after e text_is) failed = begun text line after n e text_is (bytes_eq line format_line) refl (sym (file_step text line after e) ∙ failed)

-- a bad line that is told is the first
pub first_bad : (text : List ℕ) (n : ℕ) → boot_of text ≡ Err n → IsFirstBad text n
first_bad text n failed = file_bad text n (cut text) failed

-- ---- the other direction: what is the first bad line is what the reader tells

-- a line at the front that is none, or doesn't fit
refused_line : (before : List BootLine) (text after : List ℕ) → IsBadBehind before (text ++ (10 ∷ after))
    → (read : Option BootLine) → line_of text ≡ read → with_line before read ≡ Err (next_number before)
unfolding with_line
refused_line before text after bad None is = refl
refused_line before text after bad (Some line) is =
    let said = line_read text line is in
    let whole : text ++ (10 ∷ after) ≡ ended_line line ++ after =
    ap (λ (t : List ℕ). t ++ (10 ∷ after)) said.text_is ∙ sym (append_assoc (line_text line) (10 ∷ []) after) in
    ap (λ (b : Bool). cond b (Ok (before ++ line ∷ [])) (Err (next_number before))) (bad.no_line line after said.fields whole)

-- an end that isn't whole, or has something left
refused_end : (before : List BootLine) (rest : List ℕ) → IsBadBehind before rest → at_end before rest ≡ Err (next_number before)
unfolding at_end
refused_end before [] bad = ap (λ (b : Bool). cond b (Ok before) (Err (next_number before))) (bad.no_end refl)
refused_end before (x ∷ xs) bad =
    let some : length (x ∷ xs) ≢ 0 = λ none. omega (arith, none) in
    ap (λ (b : Bool). cond (b && is_whole before) (Ok before) (Err (next_number before))) (ne_eqb (length (x ∷ xs)) 0 some)

refused_rest : (before : List BootLine) (rest : List ℕ) → IsBadBehind before rest → Cut rest → lines_on before (pieces_at 10 rest) ≡ Err (next_number before)
refused_rest before rest bad (Whole e) = lines_end before rest rest e ∙ refused_end before rest bad
refused_rest before rest bad (At line after e text_is) =
    lines_step before rest line after e
    ∙ ap (λ (r : Result (List BootLine) ℕ). and_then r (λ more. lines_on more (pieces_at 10 after)))
    (refused_line before line after (subst (λ (t : List ℕ). IsBadBehind before t) text_is bad) (line_of line) refl)

bad_is_told : (text : List ℕ) (n : ℕ) → IsBadAt [] text n → lines_on [] (pieces_at 10 text) ≡ Err n
bad_is_told text n bad =
    ap (λ (t : List ℕ). lines_on [] (pieces_at 10 t)) bad.text_is
    ∙ past_lines bad.lines [] bad.rest bad.hold bad.fit
    ∙ refused_rest bad.lines bad.rest bad.bad (cut bad.rest)
    ∙ ap Err (sym bad.number_is)

no_format_told : (text : List ℕ) (n : ℕ) → HasNoFormat text n → Cut text → boot_of text ≡ Err n
no_format_told text n none (Whole e) = file_end text text e ∙ ap Err (sym none.number_is)
no_format_told text n none (At line after e text_is) = file_step text line after e ∙ other (bytes_eq line format_line) refl
  where
    other : (format : Bool) → bytes_eq line format_line ≡ format → cond format (lines_on [] (pieces_at 10 after)) (Err 1) ≡ Err n
    other true is = absurd (none.no_format after (text_is ∙ ap (λ (t : List ℕ). t ++ (10 ∷ after)) ((bytes_eq-Decides line format_line).0 is)))
    other false is = ap Err (sym none.number_is)

-- the first bad line is told
pub first_bad_told : (text : List ℕ) (n : ℕ) → IsFirstBad text n → boot_of text ≡ Err n
first_bad_told text n (inl none) = no_format_told text n none (cut text)
first_bad_told text n (inr has) =
    let begins : pieces_at 10 text ≡ format_line ∷ pieces_at 10 has.lines_text = ap (pieces_at 10) has.text_is ∙ format_first has.lines_text in
    file_step text format_line has.lines_text begins
    ∙ ap (λ (b : Bool). cond b (lines_on [] (pieces_at 10 has.lines_text)) (Err 1)) ((bytes_eq-Decides format_line format_line).1 refl)
    ∙ bad_is_told has.lines_text n has.bad

-- there is only one
pub first_bad_unique : (text : List ℕ) (n m : ℕ) → IsFirstBad text n → IsFirstBad text m → n ≡ m
first_bad_unique text n m first second = same_error n m (boot_of text) (first_bad_told text m second) (first_bad_told text n first)

-- what is told, as a reader tells it
told_first : (text : List ℕ) (line : ℕ) → (read : Result (List BootLine) ℕ) → boot_of text ≡ read → told read ≡ Err line → TellsFirstBad text line
told_first text line (Ok lines) is failed = absurd cc
told_first text line (Err number) is failed = record { number = number; first = first_bad text number is; told_is = cc }

pub tells_first : (text : List ℕ) (line : ℕ) → told (boot_of text) ≡ Err line → TellsFirstBad text line
tells_first text line failed = told_first text line (boot_of text) refl failed

pub answers_first : (text : List ℕ) (line : ℕ) (result : Result (List BootLine) FileErr)
    → Answers (λ lines. lines) result (boot_of text) → result ≡ Err (errors.Bad line) → TellsFirstBad text line
answers_first text line result answers is =
    tells_first text line (subst (λ (r : Result (List BootLine) FileErr). Answers (λ lines. lines) r (boot_of text)) is answers)
