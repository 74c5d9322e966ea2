-- The two laws on whole files: what is read is the file's text and meets the conditions of boot
-- files, and the text of a boot file is read.
use Rattle.std.proofs.Common.{◌≡◌, ℕ, Bool, true, false, ◌&&◌, cond, eqb}
use Rattle.std.proofs.Common.{leb, List, [], ◌∷◌, ◌++◌, length, Result, Ok}
use Rattle.std.proofs.Common.{Err, refl, sym, ap, subst, ◌∙◌, append_assoc}
use Rattle.std.specs.Prelude.{IfOk}
use Rattle.std.specs.List.{flat_map, fold, list_all}
use Rattle.std.specs.Str.{bytes_eq}
use Rattle.std.proofs.lemmas.Bool.{and_parts, and_from, eqb-true, false≢true}
use Rattle.std.proofs.lemmas.List.{append-nil, nil_from_length}
use Rattle.std.proofs.lemmas.List.Sums.{fold-append}
use Rattle.std.proofs.lemmas.Slice.Eq.{bytes_eq-Decides}
use Rattle.gh_model.specs.declared.boot_line.BootLine.{BootLine}
use Rattle.gh_model.specs.declared.boot_line.BootLine.TheVariants as boot
use Rattle.gh_model.specs.declared.file_err.FileErr.{FileErr}
use Rattle.gh_model.specs.declared.state.State.{State}
use Rattle.gh_model.specs.Boot.{after_line, boot_fits, boot_state, empty_state}
use Rattle.gh_model.specs.Boot.{is_complete, line_fits, lines_fit}
use Rattle.gh_model.specs.Pieces.{pieces_at}
use Rattle.gh_bootfile.specs.BadLine.{fit_in_turn}
use Rattle.gh_bootfile.specs.BootFile.{Answers, and_then, at_end, boot_of, lines_on, next_number}
use Rattle.gh_bootfile.specs.Draft.{all_fit, next_fits, is_whole}
use Rattle.gh_bootfile.specs.Grammar.{boot_text, ended_line, fields_hold, format_line}
use Rattle.gh_bootfile.proofs.DraftLemmas.{all_fit-more, boot_whole}
use Rattle.gh_bootfile.proofs.WalkLaw.{Cut, Whole, At, cut, Stops, AtEnd, AtLine, chosen_ok}
use Rattle.gh_bootfile.proofs.WalkLaw.{file_step, file_end, format_first, lines_end}
use Rattle.gh_bootfile.proofs.WalkLaw.{lines_step, past_lines, walk, walk_read, when_ok}

-- ---- what is read is the file's text

-- lines that fit in turn behind those that fit
turn_fits : (before lines : List BootLine) → all_fit before ≡ true → fit_in_turn before lines ≡ true → all_fit (before ++ lines) ≡ true
unfolding fit_in_turn
turn_fits before [] fit turn = rw (append-nil before) fit
turn_fits before (line ∷ lines) fit turn =
    let both = and_parts (next_fits before line) (fit_in_turn (before ++ line ∷ []) lines) turn in
    subst (λ (ls : List BootLine). all_fit ls ≡ true) (append_assoc before (line ∷ []) lines) (turn_fits (before ++ line ∷ []) lines (all_fit-more before line fit both.0) both.1)

clash : {A : Type 0} (n : ℕ) (x : A) → Err n ≡ Ok x → ⊥
clash n x e = cc

-- the lines end the text
record AreAll (lines : List BootLine) (rest : List ℕ) (all : List BootLine) : Type 0 where
  nothing : rest ≡ []
  whole : is_whole lines ≡ true
  are : lines ≡ all

end_read : (lines all : List BootLine) (rest : List ℕ) → at_end lines rest ≡ Ok all → AreAll lines rest all
unfolding at_end
end_read lines all rest e =
    let test = and_parts (eqb (length rest) 0) (is_whole lines) (when_ok (eqb (length rest) 0 && is_whole lines) (next_number lines) lines all e) in
    record { nothing = nil_from_length rest (eqb-true _ _ test.0); whole = test.1; are = chosen_ok (eqb (length rest) 0 && is_whole lines) (next_number lines) lines all e }

stops_read : (lines all : List BootLine) (rest : List ℕ) → Stops lines rest → lines_on lines (pieces_at 10 rest) ≡ Ok all → AreAll lines rest all
stops_read lines all rest (AtEnd e) read = end_read lines all rest (sym (lines_end lines rest rest e) ∙ read)
stops_read lines all rest (AtLine line after e failed) read =
    absurd (clash (next_number lines) all (sym (lines_step lines rest line after e ∙ ap (λ (r : Result (List BootLine) ℕ). and_then r (λ more. lines_on more (pieces_at 10 after))) failed) ∙ read))

-- a text that reads as the lines of a boot file is their text
pub record IsFile (text : List ℕ) (lines : List BootLine) : Type 0 where
  pub text_is : text ≡ boot_text lines
  pub fields : list_all fields_hold lines ≡ true
  pub fits : boot_fits lines ≡ true

lines_read : (text : List ℕ) (all : List BootLine) → lines_on [] (pieces_at 10 text) ≡ Ok all → IsFile (format_line ++ (10 ∷ text)) all
lines_read text all read =
    let w = walk [] text in
    let end = stops_read w.lines all w.rest w.stops (sym (walk_read [] text w) ∙ read) in
    let text_is : text ≡ flat_map ended_line w.lines = w.text_is ∙ ap (λ (t : List ℕ). flat_map ended_line w.lines ++ t) end.nothing ∙ append-nil (flat_map ended_line w.lines) in
    subst (λ (ls : List BootLine). IsFile (format_line ++ (10 ∷ text)) ls) end.are (record {
      text_is = ap (λ (t : List ℕ). format_line ++ (10 ∷ t)) text_is;
      fields = w.hold;
      fits = boot_whole w.lines (turn_fits [] w.lines refl w.fit) end.whole;
    })

begun_read : (text line after : List ℕ) (lines : List BootLine) → text ≡ line ++ (10 ∷ after) → (format : Bool) → bytes_eq line format_line ≡ format
    → cond format (lines_on [] (pieces_at 10 after)) (Err 1) ≡ Ok lines → IsFile text lines
begun_read text line after lines text_is true is read =
    let begins : text ≡ format_line ++ (10 ∷ after) = text_is ∙ ap (λ (t : List ℕ). t ++ (10 ∷ after)) ((bytes_eq-Decides line format_line).0 is) in
    subst (λ (t : List ℕ). IsFile t lines) (sym begins) (lines_read after lines read)
begun_read text line after lines text_is false is read = absurd (clash 1 lines read)

file_read : (text : List ℕ) (lines : List BootLine) → Cut text → boot_of text ≡ Ok lines → IsFile text lines
file_read text lines (Whole e) read = absurd (clash 1 lines (sym (file_end text text e) ∙ read))
file_read text lines (At line after e text_is) read = begun_read text line after lines text_is (bytes_eq line format_line) refl (sym (file_step text line after e) ∙ read)

pub boot_read : (text : List ℕ) (lines : List BootLine) → boot_of text ≡ Ok lines → IsFile text lines
boot_read text lines read = file_read text lines (cut text) read

-- a reader that answers so hands out the lines of the text
pub is_text : (text : List ℕ) (result : Result (List BootLine) FileErr) → Answers (λ boot. boot) result (boot_of text) → IfOk result (λ boot. text ≡ boot_text boot)
is_text text (Ok lines) read = (boot_read text lines read).text_is
is_text text (Err error) read = tt

-- ---- the text of a boot file is read

-- lines that fit behind others fit in turn
fits_turn : (first : BootLine) (others more : List BootLine) (s : State) → s ≡ boot_state (first ∷ others) → lines_fit s more ≡ true → fit_in_turn (first ∷ others) more ≡ true
unfolding fit_in_turn
fits_turn first others [] s is fit = refl
fits_turn first others (line ∷ more) s is fit =
    let fits = and_parts (line_fits s line) (lines_fit (after_line s line) more) fit in
    let state : after_line s line ≡ boot_state (first ∷ (others ++ line ∷ [])) = ap (λ (x : State). after_line x line) is ∙ sym (fold-append after_line empty_state (first ∷ others) (line ∷ [])) in
    and_from (line_fits (boot_state (first ∷ others)) line) (fit_in_turn (first ∷ (others ++ line ∷ [])) more)
    (subst (λ (x : State). line_fits x line ≡ true) is fits.0) (fits_turn first (others ++ line ∷ []) more (after_line s line) state fits.1)

boot_turn : (lines : List BootLine) → boot_fits lines ≡ true → (fit_in_turn [] lines ≡ true) × (is_whole lines ≡ true)
unfolding fit_in_turn
boot_turn [] fit = absurd (false≢true fit)
boot_turn (boot.Pages count ∷ lines) fit =
    let three = and_parts (leb 1 count && leb count 1024 && lines_fit (after_line empty_state (boot.Pages count)) lines) (is_complete (fold after_line (after_line empty_state (boot.Pages count)) lines)) fit in
    let two = and_parts (leb 1 count && leb count 1024) (lines_fit (after_line empty_state (boot.Pages count)) lines) three.0 in
    (and_from (leb 1 count && leb count 1024) (fit_in_turn (boot.Pages count ∷ []) lines) two.0 (fits_turn (boot.Pages count) [] lines (after_line empty_state (boot.Pages count)) refl two.1), three.1)
boot_turn (_ ∷ lines) fit = absurd (false≢true fit)

end_again : (lines : List BootLine) → is_whole lines ≡ true → lines_on lines (pieces_at 10 []) ≡ Ok lines
unfolding lines_on at_end
end_again lines whole = rw whole refl

-- the text of a boot file reads as its lines
pub boot_again : (lines : List BootLine) → boot_fits lines ≡ true → list_all fields_hold lines ≡ true → boot_of (boot_text lines) ≡ Ok lines
boot_again lines fit fields =
    let turn = boot_turn lines fit in
    let text = flat_map ended_line lines in
    file_step (boot_text lines) format_line text (format_first text)
    ∙ ap (λ (b : Bool). cond b (lines_on [] (pieces_at 10 text)) (Err 1)) ((bytes_eq-Decides format_line format_line).1 refl)
    ∙ ap (λ (t : List ℕ). lines_on [] (pieces_at 10 t)) (sym (append-nil text))
    ∙ past_lines lines [] [] fields turn.0 ∙ end_again lines turn.1
