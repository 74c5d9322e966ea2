-- How a text is walked: line by line, up to the first that is bad or to the end.
use Rattle.std.proofs.Common.{◌≡◌, ℕ, zero, suc, ◌+◌, ◌<◌, Bool, true}
use Rattle.std.proofs.Common.{false, cond, List, [], ◌∷◌, ◌++◌, length}
use Rattle.std.proofs.Common.{Option, Some, None, Result, Ok, Err, refl, sym, ap}
use Rattle.std.proofs.Common.{subst, ◌∙◌, append_assoc, length-append, arith}
use Rattle.std.specs.List.{flat_map, list_all, onto_first}
use Rattle.std.specs.Str.{bytes_eq}
use Rattle.std.proofs.lemmas.Bool.{and_from, and_parts, eqb-true}
use Rattle.std.proofs.lemmas.List.{append-nil}
use Rattle.std.proofs.lemmas.List.Splits.{slice_split_at}
use Rattle.gh_model.specs.declared.boot_line.BootLine.{BootLine}
use Rattle.gh_model.specs.declared.file_err.FileErr.{FileErr}
use Rattle.gh_model.specs.declared.file_err.FileErr.TheVariants as errors
use Rattle.gh_model.specs.Pieces.{is_byte_of, pieces_at}
use Rattle.gh_bootfile.specs.BadLine.{fit_in_turn}
use Rattle.gh_bootfile.specs.BootFile.{Fails, and_then, at_end, boot_of, file_of}
use Rattle.gh_bootfile.specs.BootFile.{lines_on, next_number, with_line}
use Rattle.gh_bootfile.specs.Draft.{next_fits}
use Rattle.gh_bootfile.specs.Grammar.{ended_line, fields_hold, format_line, line_text}
use Rattle.gh_bootfile.specs.Reading.{line_of}
use Rattle.gh_bootfile.proofs.FreeBytes.{free_all}
use Rattle.gh_bootfile.proofs.LineLaw.{line_read, line_again, line_free}

-- ---- one line after the other, as the reader goes

-- the pieces of a text: a first one, and others
pub record Pieces (texts : List (List ℕ)) : Type 0 where
  pub first : List ℕ
  pub others : List (List ℕ)
  pub are : texts ≡ first ∷ others

onto : (here : Bool) (x : ℕ) (texts : List (List ℕ)) → Pieces (cond here ([] ∷ texts) (onto_first x texts))
onto true x texts = record { first = []; others = texts; are = refl }
onto false x [] = record { first = x ∷ []; others = []; are = refl }
onto false x (text ∷ texts) = record { first = x ∷ text; others = texts; are = refl }

pub pieces : (byte : ℕ) (text : List ℕ) → Pieces (pieces_at byte text)
pieces byte [] = record { first = []; others = []; are = refl }
pieces byte (x ∷ xs) = onto (is_byte_of byte x) x (pieces_at byte xs)

one_more : (lines : List BootLine) (line : List ℕ) (texts : List (List ℕ)) → Pieces texts
    → lines_on lines (line ∷ texts) ≡ and_then (with_line lines (line_of line)) (λ more. lines_on more texts)
unfolding lines_on
one_more lines line texts p = subst (λ (ts : List (List ℕ)). lines_on lines (line ∷ ts) ≡ and_then (with_line lines (line_of line)) (λ more. lines_on more ts)) (sym p.are) refl

-- a line with its line feed, and what stands behind
pub lines_step : (lines : List BootLine) (rest line after : List ℕ) → pieces_at 10 rest ≡ line ∷ pieces_at 10 after
    → lines_on lines (pieces_at 10 rest) ≡ and_then (with_line lines (line_of line)) (λ more. lines_on more (pieces_at 10 after))
lines_step lines rest line after e = ap (lines_on lines) e ∙ one_more lines line (pieces_at 10 after) (pieces 10 after)

-- a line without a line feed
pub lines_end : (lines : List BootLine) (rest line : List ℕ) → pieces_at 10 rest ≡ line ∷ [] → lines_on lines (pieces_at 10 rest) ≡ at_end lines line
unfolding lines_on
lines_end lines rest line e = ap (lines_on lines) e

-- the first line, with its line feed
pub file_step : (text line rest : List ℕ) → pieces_at 10 text ≡ line ∷ pieces_at 10 rest → boot_of text ≡ cond (bytes_eq line format_line) (lines_on [] (pieces_at 10 rest)) (Err 1)
unfolding boot_of file_of
file_step text line rest e =
    let p = pieces 10 rest in
    ap file_of e ∙ subst (λ (ts : List (List ℕ)). file_of (line ∷ ts) ≡ cond (bytes_eq line format_line) (lines_on [] ts) (Err 1)) (sym p.are) refl

pub file_end : (text line : List ℕ) → pieces_at 10 text ≡ line ∷ [] → boot_of text ≡ Err 1
unfolding boot_of file_of
file_end text line e = ap file_of e

pub chosen_ok : {A : Type 0} (b : Bool) (n : ℕ) (x y : A) → cond b (Ok x) (Err n) ≡ Ok y → x ≡ y
chosen_ok true n x y e = cc
chosen_ok false n x y e = absurd cc

pub with_line_read : (before more : List BootLine) (o : Option BootLine) → with_line before o ≡ Ok more → (line : BootLine) × (o ≡ Some line) × (more ≡ before ++ line ∷ [])
unfolding with_line
with_line_read before more None e = absurd cc
with_line_read before more (Some line) e = (line, refl, sym (chosen_ok (next_fits before line) (next_number before) (before ++ line ∷ []) more e))

pub when_ok : {A : Type 0} (b : Bool) (n : ℕ) (x y : A) → cond b (Ok x) (Err n) ≡ Ok y → b ≡ true
when_ok true n x y e = refl
when_ok false n x y e = absurd cc

-- an error at a line is the error of the whole
pub fails_on : {A B : Type 0} (error : FileErr) (read : Result A ℕ) (next : A → Result B ℕ) → Fails error read → Fails error (and_then read next)
fails_on errors.NoMemory read next failed = tt
fails_on (errors.Bad line) (Ok value) next failed = absurd cc
fails_on (errors.Bad line) (Err bad) next failed = cc

-- a line that is put behind the others is one more
pub length_with_line : (lines more : List BootLine) (o : Option BootLine) → with_line lines o ≡ Ok more → length more ≡ length lines + 1
unfolding with_line
length_with_line lines more None e = absurd cc
length_with_line lines more (Some line) e =
    let made : lines ++ line ∷ [] ≡ more = chosen_ok (next_fits lines line) (next_number lines) (lines ++ line ∷ []) more e in
    sym (ap length made) ∙ length-append lines (line ∷ [])

-- ---- a text is cut at its first line feed

-- a text is one piece, or is cut at its first line feed
pub data Cut (text : List ℕ) : Type 0 where
  Whole : pieces_at 10 text ≡ text ∷ [] → Cut text
  At : (line after : List ℕ) → pieces_at 10 text ≡ line ∷ pieces_at 10 after → text ≡ line ++ (10 ∷ after) → Cut text

cut_behind : (x : ℕ) (xs : List ℕ) (here : Bool) → is_byte_of 10 x ≡ here → Cut xs → Cut (x ∷ xs)
cut_behind x xs true is cut = At [] xs (rw is refl) (ap (λ (b : ℕ). b ∷ xs) (eqb-true x 10 is))
cut_behind x xs false is (Whole e) = Whole (rw (is, e) refl)
cut_behind x xs false is (At line after e text) = At (x ∷ line) after (rw (is, e) refl) (ap (λ (t : List ℕ). x ∷ t) text)

pub cut : (text : List ℕ) → Cut text
cut [] = Whole refl
cut (x ∷ xs) = cut_behind x xs (is_byte_of 10 x) refl (cut xs)

-- where a line stands at the front, it is the first piece
pub first_line : (line : BootLine) (after : List ℕ) → fields_hold line ≡ true → pieces_at 10 (ended_line line ++ after) ≡ line_text line ∷ pieces_at 10 after
first_line line after holds =
    ap (pieces_at 10) (append_assoc (line_text line) (10 ∷ []) after)
    ∙ slice_split_at (is_byte_of 10) (line_text line) 10 after (free_all 10 (line_text line) (line_free line holds)) refl

pub format_first : (rest : List ℕ) → pieces_at 10 (format_line ++ (10 ∷ rest)) ≡ format_line ∷ pieces_at 10 rest
format_first rest = slice_split_at (is_byte_of 10) format_line 10 rest (free_all 10 format_line refl) refl

-- ---- lines that fit, and what stops them

-- a test that went wrong
pub refused : {A : Type 0} (b : Bool) (n m : ℕ) (x : A) → cond b (Ok x) (Err m) ≡ Err n → (b ≡ false) × (m ≡ n)
refused true n m x e = absurd cc
refused false n m x e = (refl, cc)

with_line_err : (lines : List BootLine) (o : Option BootLine) (n : ℕ) → with_line lines o ≡ Err n → n ≡ next_number lines
unfolding with_line
with_line_err lines None n e = cc
with_line_err lines (Some line) n e = sym (refused (next_fits lines line) n (next_number lines) (lines ++ line ∷ []) e).1

-- the lines that fit are read one by one
pub past_lines : (lines before : List BootLine) (rest : List ℕ) → list_all fields_hold lines ≡ true → fit_in_turn before lines ≡ true
    → lines_on before (pieces_at 10 (flat_map ended_line lines ++ rest)) ≡ lines_on (before ++ lines) (pieces_at 10 rest)
unfolding fit_in_turn with_line
past_lines [] before rest hold fit = ap (λ (ls : List BootLine). lines_on ls (pieces_at 10 rest)) (sym (append-nil before))
past_lines (line ∷ lines) before rest hold fit =
    let holds = and_parts (fields_hold line) (list_all fields_hold lines) hold in
    let fits = and_parts (next_fits before line) (fit_in_turn (before ++ line ∷ []) lines) fit in
    let behind = flat_map ended_line lines ++ rest in
    let cut_is : pieces_at 10 (flat_map ended_line (line ∷ lines) ++ rest) ≡ line_text line ∷ pieces_at 10 behind =
    ap (pieces_at 10) (append_assoc (ended_line line) (flat_map ended_line lines) rest) ∙ first_line line behind holds.0 in
    let read : with_line before (line_of (line_text line)) ≡ Ok (before ++ line ∷ []) =
    ap (with_line before) (line_again line holds.0) ∙ ap (λ (b : Bool). cond b (Ok (before ++ line ∷ [])) (Err (next_number before))) fits.0 in
    lines_step before (flat_map ended_line (line ∷ lines) ++ rest) (line_text line) behind cut_is
    ∙ ap (λ (r : Result (List BootLine) ℕ). and_then r (λ more. lines_on more (pieces_at 10 behind))) read
    ∙ past_lines lines (before ++ line ∷ []) rest holds.1 fits.1
    ∙ ap (λ (ls : List BootLine). lines_on ls (pieces_at 10 rest)) (append_assoc before (line ∷ []) lines)

-- the lines are followed by none that fits: no line feed is left, or a line is bad
pub data Stops (lines : List BootLine) (rest : List ℕ) : Type 0 where
  AtEnd : pieces_at 10 rest ≡ rest ∷ [] → Stops lines rest
  AtLine : (line after : List ℕ) → pieces_at 10 rest ≡ line ∷ pieces_at 10 after → with_line lines (line_of line) ≡ Err (next_number lines) → Stops lines rest

-- behind the lines before it the text goes on with lines that fit, up to where it stops
pub record Walk (before : List BootLine) (text : List ℕ) : Type 0 where
  pub lines : List BootLine
  pub rest : List ℕ
  pub text_is : text ≡ flat_map ended_line lines ++ rest
  pub hold : list_all fields_hold lines ≡ true
  pub fit : fit_in_turn before lines ≡ true
  pub stops : Stops (before ++ lines) rest

fit_none : (before : List BootLine) → fit_in_turn before [] ≡ true
unfolding fit_in_turn
fit_none before = refl

fits_since : (before more : List BootLine) (line : BootLine) → with_line before (Some line) ≡ Ok more → next_fits before line ≡ true
unfolding with_line
fits_since before more line e = when_ok (next_fits before line) (next_number before) (before ++ line ∷ []) more e

fit_more : (before lines : List BootLine) (line : BootLine) → next_fits before line ≡ true → fit_in_turn (before ++ line ∷ []) lines ≡ true → fit_in_turn before (line ∷ lines) ≡ true
unfolding fit_in_turn
fit_more before lines line first others = and_from (next_fits before line) (fit_in_turn (before ++ line ∷ []) lines) first others

stop_here : (before : List BootLine) (text : List ℕ) → Stops before text → Walk before text
stop_here before text stops = record {
  lines = [];
  rest = text;
  text_is = refl;
  hold = refl;
  fit = fit_none before;
  stops = subst (λ (ls : List BootLine). Stops ls text) (sym (append-nil before)) stops;
}

-- a line that fits stands at the front
go_on : (before more : List BootLine) (text line after : List ℕ) → text ≡ line ++ (10 ∷ after) → with_line before (line_of line) ≡ Ok more → Walk more after → Walk before text
go_on before more text line after text_is made rest =
    let found = with_line_read before more (line_of line) made in
    let first = found.0 in
    let is = line_read line first found.1 in
    let longer : more ++ rest.lines ≡ before ++ (first ∷ rest.lines) = ap (λ (ls : List BootLine). ls ++ rest.lines) found.2 ∙ append_assoc before (first ∷ []) rest.lines in
    let fits : next_fits before first ≡ true = fits_since before more first (sym (ap (with_line before) found.1) ∙ made) in
    record {
      lines = first ∷ rest.lines;
      rest = rest.rest;
      text_is = text_is ∙ ap (λ (t : List ℕ). t ++ (10 ∷ after)) is.text_is ∙ ap (λ (t : List ℕ). line_text first ++ (10 ∷ t)) rest.text_is
          ∙ sym (append_assoc (line_text first) (10 ∷ []) (flat_map ended_line rest.lines ++ rest.rest))
          ∙ sym (append_assoc (ended_line first) (flat_map ended_line rest.lines) rest.rest);
      hold = and_from (fields_hold first) (list_all fields_hold rest.lines) is.fields rest.hold;
      fit = fit_more before rest.lines first fits (subst (λ (ls : List BootLine). fit_in_turn ls rest.lines ≡ true) found.2 rest.fit);
      stops = subst (λ (ls : List BootLine). Stops ls rest.rest) longer rest.stops;
    }

walk_line : (before : List BootLine) (text line after : List ℕ) → pieces_at 10 text ≡ line ∷ pieces_at 10 after → text ≡ line ++ (10 ∷ after)
    → ((more : List BootLine) → Walk more after) → (read : Result (List BootLine) ℕ) → with_line before (line_of line) ≡ read → Walk before text
walk_line before text line after e text_is again (Ok more) is = go_on before more text line after text_is is (again more)
walk_line before text line after e text_is again (Err n) is =
    stop_here before text (AtLine line after e (is ∙ ap Err (with_line_err before (line_of line) n is)))

shorter : (text line after : List ℕ) → text ≡ line ++ (10 ∷ after) → length after < length text
shorter text line after e = omega (arith, ap length e, length-append line (10 ∷ after))

walk_cut : (before : List BootLine) (text : List ℕ) → ((more : List BootLine) (after : List ℕ) → length after < length text → Walk more after) → Cut text → Walk before text
walk_cut before text again (Whole e) = stop_here before text (AtEnd e)
walk_cut before text again (At line after e text_is) =
    walk_line before text line after e text_is (λ more. again more after (shorter text line after text_is)) (with_line before (line_of line)) refl

walk_all : (fuel : ℕ) (before : List BootLine) (text : List ℕ) → length text < fuel → Walk before text
walk_all zero before text short = absurd (omega arith)
walk_all (suc fuel) before text short = walk_cut before text (λ more after less. walk_all fuel more after (omega arith)) (cut text)

-- every text is walked
pub walk : (before : List BootLine) (text : List ℕ) → Walk before text
walk before text = walk_all (suc (length text)) before text (omega arith)

-- and read so
pub walk_read : (before : List BootLine) (text : List ℕ) (w : Walk before text) → lines_on before (pieces_at 10 text) ≡ lines_on (before ++ w.lines) (pieces_at 10 w.rest)
walk_read before text w = ap (λ (t : List ℕ). lines_on before (pieces_at 10 t)) w.text_is ∙ past_lines w.lines before w.rest w.hold w.fit
