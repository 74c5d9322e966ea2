-- The two laws on lines: what is read is the line's text, and a line's text is read.
use Rattle.std.proofs.Common.{◌≡◌, ℕ, zero, suc, ◌+◌, ◌^◌, ◌<◌}
use Rattle.std.proofs.Common.{◌≤◌, Bool, true, false, cond, eqb, List, [], ◌∷◌}
use Rattle.std.proofs.Common.{◌++◌, length, get_or, map, Option, Some, None, refl, sym}
use Rattle.std.proofs.Common.{ap, ◌∙◌, append_assoc, length-append, arith, lit≤}
use Rattle.std.specs.Fmt.{decimal}
use Rattle.std.specs.List.{find, flat_map, list_all, join_with_byte, AllByRecursion, range_with_len}
use Rattle.std.specs.Option.{option_and_then}
use Rattle.std.proofs.lemmas.Bool.{and_parts, eqb-true, cond-true}
use Rattle.std.proofs.lemmas.Bool.Decides.{nat_tests}
use Rattle.std.proofs.lemmas.List.{append-nil}
use Rattle.std.proofs.lemmas.List.FromFn.{fill_by_all}
use Rattle.std.proofs.lemmas.List.Splits.{slice_split_none, slice_split_at}
use Rattle.std.proofs.lemmas.List.Splits.{join_with_byte-slice_split}
use Rattle.std.proofs.lemmas.Option.{cond_some, same_Some, option_and_then_some}
use Rattle.std.proofs.lemmas.Slice.Eq.{bytes_eq-Decides}
use Rattle.gh_bootfile.specs.declared.keyword.Keyword.{Keyword}
use Rattle.gh_bootfile.specs.declared.keyword.Keyword.TheVariants as word
use Rattle.gh_bootfile.specs.Grammar.{keyword_text, mark_number, parts_of, line_parts}
use Rattle.gh_model.specs.Text.{spaced}
use Rattle.gh_bootfile.specs.Grammar.{spelled, parts_text, line_text, bounds}
use Rattle.gh_bootfile.specs.Grammar.{are_below, parts_hold, fields_hold}
use Rattle.gh_bootfile.specs.Reading.{has_text, keywords, keyword_of, number_of, with_number}
use Rattle.gh_bootfile.specs.Reading.{numbers_on, line_made, line_from, line_of_words, line_of}
use Rattle.gh_model.specs.Pieces.{is_byte_of, pieces_at}
use Rattle.gh_model.specs.declared.boot_line.BootLine.{BootLine}
use Rattle.gh_model.specs.declared.boot_line.BootLine.TheVariants as boot
use Rattle.gh_bootfile.proofs.FreeBytes.{is_free, free_append, free_all, is_letter, letters_free}
use Rattle.gh_bootfile.proofs.NumberLaw.{number_read, number_again, decimal_free}

abbrev pub IsSmall : ℕ → Type 0
IsSmall n = n < 2 ^ 32

refused : {A : Type 0} (b : Bool) (x y : A) → cond b None (Some x) ≡ Some y → x ≡ y
refused true x y e = absurd cc
refused false x y e = cc

-- ---- numbers

with_number_read : (numbers more : List ℕ) (o : Option ℕ) → with_number numbers o ≡ Some more → (n : ℕ) × (o ≡ Some n) × (more ≡ numbers ++ n ∷ [])
with_number_read numbers more None e = absurd cc
with_number_read numbers more (Some n) e = (n, refl, sym (refused (eqb (length numbers) 7) (numbers ++ n ∷ []) more e))

-- what words read as numbers are
pub record Numbers (done : List ℕ) (texts : List (List ℕ)) (ns : List ℕ) : Type 0 where
  pub more : List ℕ
  pub behind : ns ≡ done ++ more
  pub texts_are : texts ≡ map decimal more

numbers_read : (done : List ℕ) (texts : List (List ℕ)) (ns : List ℕ) → numbers_on done texts ≡ Some ns → Numbers done texts ns
numbers_read done [] ns e = record { more = []; behind = cc (append-nil done); texts_are = refl }
numbers_read done (text ∷ texts) ns e =
    option_and_then_some (λ more. numbers_on more texts) (with_number done (number_of text)) ns e (λ more one rest.
    let first = with_number_read done more (number_of text) one in
    let others = numbers_read more texts ns rest in
    let n = first.0 in
    let text_is : text ≡ decimal n = (number_read text n first.1).0 in
    record {
      more = n ∷ others.more;
      behind = others.behind ∙ ap (λ (xs : List ℕ). xs ++ others.more) first.2 ∙ append_assoc done (n ∷ []) others.more;
      texts_are = ap (λ (t : List ℕ). t ∷ texts) text_is ∙ ap (λ (ts : List (List ℕ)). decimal n ∷ ts) others.texts_are;
    })

not_full : (count more : ℕ) → count + (1 + more) ≤ 7 → eqb count 7 ≡ false
not_full count more few = grind (arith, nat_tests)

numbers_again : (done ns : List ℕ) → AllByRecursion IsSmall ns → length done + length ns ≤ 7 → numbers_on done (map decimal ns) ≡ Some (done ++ ns)
numbers_again done [] small few = ap Some (sym (append-nil done))
numbers_again done (n ∷ ns) small few =
    let room : eqb (length done) 7 ≡ false = not_full (length done) (length ns) (omega arith) in
    let one : with_number done (number_of (decimal n)) ≡ Some (done ++ n ∷ []) = rw (number_again n small.0, room) refl in
    let step : numbers_on done (map decimal (n ∷ ns)) ≡ numbers_on (done ++ n ∷ []) (map decimal ns) = ap (λ o. option_and_then (λ more. numbers_on more (map decimal ns)) o) one in
    step ∙ numbers_again (done ++ n ∷ []) ns small.1 (omega (arith, length-append done (n ∷ []))) ∙ ap Some (append_assoc done (n ∷ []) ns)

-- ---- words

joined : (first : List ℕ) (ns : List ℕ) → join_with_byte 32 (first ∷ map decimal ns) ≡ spelled first ns
joined first [] = sym (append-nil first)
joined first (n ∷ ns) = ap (λ (rest : List ℕ). first ++ (32 ∷ rest)) (joined (decimal n) ns)

-- a word without spaces and numbers behind it come apart again
words_again : (first : List ℕ) (ns : List ℕ) → is_free 32 first ≡ true → AllByRecursion IsSmall ns → pieces_at 32 (spelled first ns) ≡ first ∷ map decimal ns
words_again first [] free small = ap (pieces_at 32) (append-nil first) ∙ slice_split_none (is_byte_of 32) first (free_all 32 first free)
words_again first (n ∷ ns) free small =
    slice_split_at (is_byte_of 32) first 32 (spelled (decimal n) ns) (free_all 32 first free) refl
    ∙ ap (λ (texts : List (List ℕ)). first ∷ texts) (words_again (decimal n) ns (decimal_free 32 n (lit≤ tt) small.0) small.1)

-- ---- the keyword

found_first : {A : Type 0} (p : A → Bool) (y x : A) (b : Bool) (o : Option A) → p y ≡ b → (o ≡ Some x → p x ≡ true) → cond b (Some y) o ≡ Some x → p x ≡ true
found_first p y x true o is later e = rw (← same_Some y x e) is
found_first p y x false o is later e = later e

found : {A : Type 0} (p : A → Bool) (xs : List A) (x : A) → find p xs ≡ Some x → p x ≡ true
found p [] x e = absurd cc
found p (y ∷ ys) x e = found_first p y x (p y) (find p ys) refl (found p ys x) e

keyword_read : (text : List ℕ) (keyword : Keyword) → keyword_of text ≡ Some keyword → keyword_text keyword ≡ text
keyword_read text keyword e = (bytes_eq-Decides (keyword_text keyword) text).0 (found (has_text text) keywords keyword e)

keyword_again : (keyword : Keyword) → keyword_of (keyword_text keyword) ≡ Some keyword
keyword_again word.Pages = refl
keyword_again word.Partition = refl
keyword_again word.Cspace = refl
keyword_again word.Addrspace = refl
keyword_again word.Doorbell = refl
keyword_again word.RootExtent = refl
keyword_again word.Extent = refl
keyword_again word.Msgqueue = refl
keyword_again word.Map = refl
keyword_again word.Cap = refl
keyword_again word.Vm = refl
keyword_again word.Rm = refl
keyword_again word.Link = refl

-- a keyword has only letters
letters : (keyword : Keyword) → list_all is_letter (keyword_text keyword) ≡ true
letters word.Pages = refl
letters word.Partition = refl
letters word.Cspace = refl
letters word.Addrspace = refl
letters word.Doorbell = refl
letters word.RootExtent = refl
letters word.Extent = refl
letters word.Msgqueue = refl
letters word.Map = refl
letters word.Cap = refl
letters word.Vm = refl
letters word.Rm = refl
letters word.Link = refl

keyword_free : (byte : ℕ) (keyword : Keyword) → byte ≤ 47 → is_free byte (keyword_text keyword) ≡ true
keyword_free byte keyword low = letters_free byte (keyword_text keyword) low (letters keyword)

-- ---- the line of a keyword and numbers

-- the numbers, written out
written_out : (ns : List ℕ) (count : ℕ) → length ns ≡ count → ns ≡ map (λ at. get_or ns at 0) (range_with_len 0 count)
written_out ns count e = fill_by_all (λ at. get_or ns at 0) ns count 0 e (λ at within. refl)

mark_again : (n : ℕ) → n < 2 → n ≡ mark_number (eqb n 1)
mark_again zero small = refl
mark_again (suc zero) small = refl
mark_again (suc (suc n)) small = absurd (omega arith)

-- a capability's numbers, the last of which is a mark
cap_numbers : (ns : List ℕ) → length ns ≡ 5 → get_or ns 4 0 < 2 → ns ≡ get_or ns 0 0 ∷ get_or ns 1 0 ∷ get_or ns 2 0 ∷ get_or ns 3 0 ∷ mark_number (eqb (get_or ns 4 0) 1) ∷ []
cap_numbers ns e small =
    written_out ns 5 e ∙ ap (λ n. get_or ns 0 0 ∷ get_or ns 1 0 ∷ get_or ns 2 0 ∷ get_or ns 3 0 ∷ n ∷ []) (mark_again (get_or ns 4 0) small)

-- the line that is made of parts has these parts
made_numbers : (keyword : Keyword) (ns : List ℕ) → length ns ≡ length (bounds keyword) → are_below (bounds keyword) ns 0 ≡ true → parts_of keyword ns ≡ line_parts (line_made keyword ns)
made_numbers word.Pages ns e below = ap (parts_of word.Pages) (written_out ns 1 e)
made_numbers word.Partition ns e below = ap (parts_of word.Partition) (written_out ns 1 e)
made_numbers word.Cspace ns e below = ap (parts_of word.Cspace) (written_out ns 1 e)
made_numbers word.Addrspace ns e below = ap (parts_of word.Addrspace) (written_out ns 1 e)
made_numbers word.Doorbell ns e below = ap (parts_of word.Doorbell) (written_out ns 1 e)
made_numbers word.RootExtent ns e below = ap (parts_of word.RootExtent) (written_out ns 1 e)
made_numbers word.Extent ns e below = ap (parts_of word.Extent) (written_out ns 7 e)
made_numbers word.Msgqueue ns e below = ap (parts_of word.Msgqueue) (written_out ns 3 e)
made_numbers word.Map ns e below = ap (parts_of word.Map) (written_out ns 6 e)
made_numbers word.Cap ns e below = ap (parts_of word.Cap) (cap_numbers ns e (grind (arith, nat_tests)))
made_numbers word.Vm ns e below = ap (parts_of word.Vm) (written_out ns 2 e)
made_numbers word.Rm ns e below = ap (parts_of word.Rm) (written_out ns 3 e)
made_numbers word.Link ns e below = ap (parts_of word.Link) (written_out ns 4 e)

-- what is read of a keyword and numbers has these parts, and they hold
pub record IsRow (keyword : Keyword) (ns : List ℕ) (line : BootLine) : Type 0 where
  pub parts_are : parts_of keyword ns ≡ line_parts line
  pub fields : fields_hold line ≡ true

line_from_read : (keyword : Keyword) (ns : List ℕ) (line : BootLine) → line_from keyword ns ≡ Some line → IsRow keyword ns line
line_from_read keyword ns line e =
    let made = cond_some (parts_hold (parts_of keyword ns)) (line_made keyword ns) line e in
    let hold = and_parts (eqb (length ns) (length (bounds keyword))) (are_below (bounds keyword) ns 0) made.0 in
    let same : parts_of keyword ns ≡ line_parts line = made_numbers keyword ns (eqb-true _ _ hold.0) hold.1 ∙ ap line_parts made.1 in
    record { parts_are = same; fields = ap parts_hold (sym same) ∙ made.0 }

-- ---- the two laws

pub record IsLine (text : List ℕ) (line : BootLine) : Type 0 where
  pub text_is : text ≡ line_text line
  pub fields : fields_hold line ≡ true

words_read : (words : List (List ℕ)) (line : BootLine) → line_of_words words ≡ Some line → IsLine (join_with_byte 32 words) line
words_read [] line e = absurd cc
words_read (text ∷ texts) line e =
    option_and_then_some (λ keyword. option_and_then (λ ns. line_from keyword ns) (numbers_on [] texts)) (keyword_of text) line e (λ keyword is rest.
    option_and_then_some (λ ns. line_from keyword ns) (numbers_on [] texts) line rest (λ ns numbers made.
    let read = numbers_read [] texts ns numbers in
    let row = line_from_read keyword ns line made in
    let joins : join_with_byte 32 (text ∷ texts) ≡ spelled text read.more = ap (λ (ts : List (List ℕ)). join_with_byte 32 (text ∷ ts)) read.texts_are ∙ joined text read.more in
    let same : spelled text read.more ≡ spelled (keyword_text keyword) ns = ap (λ (w : List ℕ). spelled w read.more) (sym (keyword_read text keyword is)) ∙ ap (spelled (keyword_text keyword)) (sym read.behind) in
    record { text_is = joins ∙ same ∙ ap parts_text row.parts_are; fields = row.fields }))

-- what a line is read from is its text
pub line_read : (text : List ℕ) (line : BootLine) → line_of text ≡ Some line → IsLine text line
unfolding line_of
line_read text line e =
    let whole : join_with_byte 32 (pieces_at 32 text) ≡ text = join_with_byte-slice_split 32 text in
    let read = words_read (pieces_at 32 text) line e in
    record { text_is = sym whole ∙ read.text_is; fields = read.fields }

-- a line is made of its parts
made_again : (line : BootLine) → line_made (line_parts line).keyword (line_parts line).numbers ≡ line
made_again (boot.Cap cspace slot object rights true) = refl
made_again (boot.Cap cspace slot object rights false) = refl
made_again _ = refl

line_from_again : (line : BootLine) → fields_hold line ≡ true → line_from (line_parts line).keyword (line_parts line).numbers ≡ Some line
line_from_again line holds = cond-true _ _ _ holds ∙ ap Some (made_again line)

-- a line's numbers have 32 bits, and are at most seven
small_numbers : (line : BootLine) → fields_hold line ≡ true → AllByRecursion IsSmall (line_parts line).numbers
small_numbers (boot.Cap cspace slot object rights true) holds = grind (arith, nat_tests)
small_numbers (boot.Cap cspace slot object rights false) holds = grind (arith, nat_tests)
small_numbers _ holds = grind (arith, nat_tests)

few_numbers : (line : BootLine) → length (line_parts line).numbers ≤ 7
few_numbers (boot.Pages count) = lit≤ tt
few_numbers _ = lit≤ tt

-- the text of a line is read as that line
pub line_again : (line : BootLine) → fields_hold line ≡ true → line_of (line_text line) ≡ Some line
unfolding line_of
line_again line holds =
    let keyword = (line_parts line).keyword in
    let ns = (line_parts line).numbers in
    let small = small_numbers line holds in
    let apart : pieces_at 32 (line_text line) ≡ keyword_text keyword ∷ map decimal ns = words_again (keyword_text keyword) ns (keyword_free 32 keyword (lit≤ tt)) small in
    let numbers : numbers_on [] (map decimal ns) ≡ Some ns = numbers_again [] ns small (omega (arith, few_numbers line)) in
    let step : line_of_words (keyword_text keyword ∷ map decimal ns) ≡ line_from keyword ns = rw (keyword_again keyword, numbers) refl in
    ap line_of_words apart ∙ step ∙ line_from_again line holds

numbers_free : (ns : List ℕ) → AllByRecursion IsSmall ns → is_free 10 (flat_map spaced ns) ≡ true
numbers_free [] small = refl
numbers_free (n ∷ ns) small = free_append 10 (spaced n) (flat_map spaced ns) (decimal_free 10 n (lit≤ tt) small.0) (numbers_free ns small.1)

-- no line feed stands in a line
pub line_free : (line : BootLine) → fields_hold line ≡ true → is_free 10 (line_text line) ≡ true
line_free line holds =
    free_append 10 (keyword_text (line_parts line).keyword) (flat_map spaced (line_parts line).numbers) (keyword_free 10 (line_parts line).keyword (lit≤ tt)) (numbers_free (line_parts line).numbers (small_numbers line holds))
