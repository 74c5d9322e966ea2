-- The words of a line are read back: looks, what an end names, a reply, an entry.
use Rattle.std.specs.Prelude.{⊤}
use Rattle.std.proofs.Common.{◌≡◌, ◌==◌, ◌+◌, ◌<◌, ◌≤◌, ◌∙◌, ℕ, Bool, true, false, List, [], ◌∷◌, ◌++◌, ap, arith, codes, drop, length, map, refl, slice_index_or, subst, sym}
use Rattle.std.proofs.lemmas.Bool.Decides.{nat_tests}
use Rattle.std.proofs.lemmas.List.{append_assoc}
use Rattle.std.specs.Char.{digit_value}
use Rattle.std.specs.Fmt.{decimal}
use Rattle.std.specs.List.{AllByRecursion, flat_map}
use Rattle.gh_base.specs.declared.cap_word.Look.{Look}
use Rattle.gh_base.specs.declared.frame.Reply.{Reply}
use Rattle.gh_base.specs.declared.ids.CpuNo.{CpuNo}
use Rattle.gh_base.specs.declared.ids.Serial.{Serial}
use Rattle.gh_base.specs.declared.mark.End.{End}
use Rattle.gh_base.specs.declared.mark.End.TheVariants as ends
use Rattle.gh_base.specs.declared.mark.Held.{Held}
use Rattle.gh_base.specs.declared.mark.Held.TheVariants.{Pins, Reading}
use Rattle.gh_base.specs.declared.mark.Mark.{Mark}
use Rattle.gh_model.specs.Text.{byte_text, bytes_words, call_head, call_line, end_words, entry_words, held_words, look_words, reply_words, spaced, spaced_register}
use Rattle.gh_model.specs.declared.entry.Entry.{Entry}
use Rattle.gh_model.specs.declared.entry.Entry.TheVariants.{Acted, Part, Retired, Reclaimed}
use Rattle.gh_text.specs.Told.{EndFits, EntryFits, HeldFits, IsByte, IsWord, LookFits, MarkFits, ReplyFits, told, told_look}
use Rattle.gh_text.proofs.Pieces.{Breaks, Ends, bytes, ends_line, number, numbers, registers_in_row}

-- a letter of a text
abbrev pub letter : ℕ → List ℕ → ℕ
letter n text = slice_index_or text n 0

-- a space begins no digit
space_digit : 16 ≤ digit_value 32
space_digit = (let value : digit_value 32 ≡ 36 = refl in omega (arith, value))

pub breaks_space : (r : List ℕ) → Breaks (32 ∷ r)
breaks_space r = (let value : digit_value 32 ≡ 36 = refl in omega (arith, value))

-- two numbers, and three and four
pub two : (a b c d : ℕ) (r s : List ℕ) → IsWord a × IsWord b → IsWord c × IsWord d → Breaks r → Breaks s
    → (spaced a ++ spaced b) ++ r ≡ (spaced c ++ spaced d) ++ s → (a ≡ c) × ((b ≡ d) × (r ≡ s))
two a b c d r s low also ends end same =
    let first : (a ≡ c) × (spaced b ++ r ≡ spaced d ++ s) =
    number a c (spaced b ++ r) (spaced d ++ s) low.0 also.0 (breaks_space (decimal b ++ r)) (breaks_space (decimal d ++ s))
    (sym (append_assoc (spaced a) (spaced b) r) ∙ same ∙ append_assoc (spaced c) (spaced d) s) in
    (first.0, number b d r s low.1 also.1 ends end first.1)

pub three : (a b c d e f : ℕ) (r s : List ℕ) → IsWord a × (IsWord b × IsWord c) → IsWord d × (IsWord e × IsWord f) → Breaks r → Breaks s
    → (spaced a ++ (spaced b ++ spaced c)) ++ r ≡ (spaced d ++ (spaced e ++ spaced f)) ++ s
    → (a ≡ d) × ((b ≡ e) × ((c ≡ f) × (r ≡ s)))
three a b c d e f r s low also ends end same =
    let first : (a ≡ d) × ((spaced b ++ spaced c) ++ r ≡ (spaced e ++ spaced f) ++ s) =
    number a d ((spaced b ++ spaced c) ++ r) ((spaced e ++ spaced f) ++ s) low.0 also.0
    (breaks_space ((decimal b ++ spaced c) ++ r)) (breaks_space ((decimal e ++ spaced f) ++ s))
    (sym (append_assoc (spaced a) (spaced b ++ spaced c) r) ∙ same ∙ append_assoc (spaced d) (spaced e ++ spaced f) s) in
    (first.0, two b c e f r s low.1 also.1 ends end first.1)

pub four : (a b c d e f g h : ℕ) (r s : List ℕ) → IsWord a × (IsWord b × (IsWord c × IsWord d))
    → IsWord e × (IsWord f × (IsWord g × IsWord h)) → Breaks r → Breaks s
    → (spaced a ++ (spaced b ++ (spaced c ++ spaced d))) ++ r ≡ (spaced e ++ (spaced f ++ (spaced g ++ spaced h))) ++ s
    → (a ≡ e) × ((b ≡ f) × ((c ≡ g) × ((d ≡ h) × (r ≡ s))))
four a b c d e f g h r s low also ends end same =
    let first : (a ≡ e) × ((spaced b ++ (spaced c ++ spaced d)) ++ r ≡ (spaced f ++ (spaced g ++ spaced h)) ++ s) =
    number a e ((spaced b ++ (spaced c ++ spaced d)) ++ r) ((spaced f ++ (spaced g ++ spaced h)) ++ s) low.0 also.0
    (breaks_space ((decimal b ++ (spaced c ++ spaced d)) ++ r)) (breaks_space ((decimal f ++ (spaced g ++ spaced h)) ++ s))
    (sym (append_assoc (spaced a) (spaced b ++ (spaced c ++ spaced d)) r) ∙ same ∙ append_assoc (spaced e) (spaced f ++ (spaced g ++ spaced h)) s) in
    (first.0, three b c d f g h r s low.1 also.1 ends end first.1)

-- a row of words that begin each with a space and a letter, before what begins otherwise

-- looks

-- what follows looks is a word that is no look
pub record NoLook (rest : List ℕ) : Type 0 where
  pub breaks : Breaks rest
  pub other : (letter 1 rest == 108) ≡ false

pub looks : (xs ys : List Look) (t u : List ℕ) → AllByRecursion LookFits xs → AllByRecursion LookFits ys → NoLook t → NoLook u
    → flat_map look_words xs ++ t ≡ flat_map look_words ys ++ u → (map told_look xs ≡ map told_look ys) × (t ≡ u)
looks [] [] t u low also before behind same = (refl, same)
looks [] (y ∷ ys) t u low also before behind same =
    let l : letter 1 t ≡ 108 = ap (letter 1) same in
    let other : (letter 1 t == 108) ≡ false = before.other in
    absurd (let never : ⊥ = cc in never)
looks (x ∷ xs) [] t u low also before behind same =
    let l : letter 1 u ≡ 108 = ap (letter 1) (sym same) in
    let other : (letter 1 u == 108) ≡ false = behind.other in
    absurd (let never : ⊥ = cc in never)
looks (x ∷ xs) (y ∷ ys) t u low also before behind same =
    let inner : (spaced x.slot ++ spaced x.place) ++ (flat_map look_words xs ++ t) ≡ (spaced y.slot ++ spaced y.place) ++ (flat_map look_words ys ++ u)
    = ap (drop 5) (sym (append_assoc (look_words x) (flat_map look_words xs) t) ∙ same ∙ append_assoc (look_words y) (flat_map look_words ys) u) in
    let parts = two x.slot x.place y.slot y.place (flat_map look_words xs ++ t) (flat_map look_words ys ++ u) low.0 also.0
    (breaks_on xs t before.breaks) (breaks_on ys u behind.breaks) inner in
    let more : (map told_look xs ≡ map told_look ys) × (t ≡ u) = looks xs ys t u low.1 also.1 before behind parts.1.1 in
    let slot : x.slot ≡ y.slot = parts.0 in
    let place : x.place ≡ y.place = parts.1.0 in
    let rest : map told_look xs ≡ map told_look ys = more.0 in
    ((let told : map told_look (x ∷ xs) ≡ map told_look (y ∷ ys) = cc in told), more.1)
  where
    breaks_on : (zs : List Look) (r : List ℕ) → Breaks r → Breaks (flat_map look_words zs ++ r)
    breaks_on [] r breaks = breaks
    breaks_on (z ∷ zs) r breaks = space_digit

-- what is held

-- what follows them is the reply
pub record IsReply (rest : List ℕ) : Type 0 where
  pub breaks : Breaks rest
  pub mark : letter 1 rest ≡ 61

joined_held : (x y : Held) (xs ys : List Held) → x ≡ y → xs ≡ ys → x ∷ xs ≡ y ∷ ys
joined_held x y xs ys head tail = cc

same_pins : (a b : Serial) (m n : ℕ) → a.0 ≡ b.0 → m ≡ n → Pins a m ≡ Pins b n
same_pins a b m n first second = (let serial : a ≡ b = ap (λ (k : ℕ). the_serial k) first in cc)
  where
    the_serial : ℕ → Serial
    the_serial k = record { 0 = k }

same_reading : (a b : Serial) (c d : CpuNo) (m n : ℕ) → a.0 ≡ b.0 → c.0 ≡ d.0 → m ≡ n → Reading a c m ≡ Reading b d n
same_reading a b c d m n first second third =
    (let serial : a ≡ b = ap (λ (k : ℕ). the_serial k) first in let cpu : c ≡ d = ap (λ (k : ℕ). the_cpu k) second in cc)
  where
    the_serial : ℕ → Serial
    the_serial k = record { 0 = k }

    the_cpu : ℕ → CpuNo
    the_cpu k = record { 0 = k }

held_one : (x y : Held) (r s : List ℕ) → HeldFits x → HeldFits y → Breaks r → Breaks s → held_words x ++ r ≡ held_words y ++ s
    → (x ≡ y) × (r ≡ s)
held_one (Pins a m) (Pins b n) r s low also ends end same =
    let parts = two a.0 m b.0 n r s low also ends end (ap (drop 5) same) in
    (same_pins a b m n parts.0 parts.1.0, parts.1.1)
held_one (Pins a m) (Reading b d n) r s low also ends end same =
    absurd (let never : 112 ≡ 114 = ap (letter 1) same in omega (arith, never))
held_one (Reading a c m) (Pins b n) r s low also ends end same =
    absurd (let never : 114 ≡ 112 = ap (letter 1) same in omega (arith, never))
held_one (Reading a c m) (Reading b d n) r s low also ends end same =
    let parts = three a.0 c.0 m b.0 d.0 n r s low also ends end (ap (drop 8) same) in
    (same_reading a b c d m n parts.0 parts.1.0 parts.1.1.0, parts.1.1.1)

held_letter : (x : Held) (r : List ℕ) → letter 1 (held_words x ++ r) ≡ 61 → ⊥
held_letter (Pins a m) r is = (let never : 112 ≡ 61 = is in omega (arith, never))
held_letter (Reading a c m) r is = (let never : 114 ≡ 61 = is in omega (arith, never))

held_breaks : (xs : List Held) (r : List ℕ) → Breaks r → Breaks (flat_map held_words xs ++ r)
held_breaks [] r breaks = breaks
held_breaks (Pins a m ∷ xs) r breaks = space_digit
held_breaks (Reading a c m ∷ xs) r breaks = space_digit

helds : (xs ys : List Held) (t u : List ℕ) → AllByRecursion HeldFits xs → AllByRecursion HeldFits ys → IsReply t → IsReply u
    → flat_map held_words xs ++ t ≡ flat_map held_words ys ++ u → (xs ≡ ys) × (t ≡ u)
helds [] [] t u low also is also_is same = (refl, same)
helds [] (y ∷ ys) t u low also is also_is same =
    absurd (held_letter y (flat_map held_words ys ++ u)
    (ap (letter 1) (sym (append_assoc (held_words y) (flat_map held_words ys) u)) ∙ sym (ap (letter 1) same) ∙ is.mark))
helds (x ∷ xs) [] t u low also is also_is same =
    absurd (held_letter x (flat_map held_words xs ++ t)
    (ap (letter 1) (sym (append_assoc (held_words x) (flat_map held_words xs) t)) ∙ ap (letter 1) same ∙ also_is.mark))
helds (x ∷ xs) (y ∷ ys) t u low also is also_is same =
    let first : (x ≡ y) × (flat_map held_words xs ++ t ≡ flat_map held_words ys ++ u) =
    held_one x y (flat_map held_words xs ++ t) (flat_map held_words ys ++ u) low.0 also.0 (held_breaks xs t is.breaks) (held_breaks ys u also_is.breaks)
    (sym (append_assoc (held_words x) (flat_map held_words xs) t) ∙ same ∙ append_assoc (held_words y) (flat_map held_words ys) u) in
    let more : (xs ≡ ys) × (t ≡ u) = helds xs ys t u low.1 also.1 is also_is first.1 in
    (joined_held x y xs ys first.0 more.0, more.1)

-- ends

short_of : (place other : ℕ) (held others : List Held) → place ≡ other → held ≡ others → ends.Short place held ≡ ends.Short other others
short_of place other held others first second = cc

pub end_told : (e f : End) (r s : List ℕ) → EndFits e → EndFits f → IsReply r → IsReply s → end_words e ++ r ≡ end_words f ++ s
    → (e ≡ f) × (r ≡ s)
end_told ends.Frame ends.Frame r s low also is also_is same = (refl, ap (drop 6) same)
end_told ends.Frame ends.Refused r s low also is also_is same = absurd (let never : 102 ≡ 114 = ap (letter 1) same in omega (arith, never))
end_told ends.Frame ends.Dead r s low also is also_is same = absurd (let never : 102 ≡ 100 = ap (letter 1) same in omega (arith, never))
end_told ends.Frame (ends.Act other) r s low also is also_is same = absurd (let never : 102 ≡ 97 = ap (letter 1) same in omega (arith, never))
end_told ends.Frame (ends.Short other others) r s low also is also_is same = absurd (let never : 102 ≡ 115 = ap (letter 1) same in omega (arith, never))
end_told ends.Frame (ends.Entry other) r s low also is also_is same = absurd (let never : 102 ≡ 101 = ap (letter 1) same in omega (arith, never))
end_told ends.Refused ends.Frame r s low also is also_is same = absurd (let never : 114 ≡ 102 = ap (letter 1) same in omega (arith, never))
end_told ends.Refused ends.Refused r s low also is also_is same = (refl, ap (drop 8) same)
end_told ends.Refused ends.Dead r s low also is also_is same = absurd (let never : 114 ≡ 100 = ap (letter 1) same in omega (arith, never))
end_told ends.Refused (ends.Act other) r s low also is also_is same = absurd (let never : 114 ≡ 97 = ap (letter 1) same in omega (arith, never))
end_told ends.Refused (ends.Short other others) r s low also is also_is same = absurd (let never : 114 ≡ 115 = ap (letter 1) same in omega (arith, never))
end_told ends.Refused (ends.Entry other) r s low also is also_is same = absurd (let never : 114 ≡ 101 = ap (letter 1) same in omega (arith, never))
end_told ends.Dead ends.Frame r s low also is also_is same = absurd (let never : 100 ≡ 102 = ap (letter 1) same in omega (arith, never))
end_told ends.Dead ends.Refused r s low also is also_is same = absurd (let never : 100 ≡ 114 = ap (letter 1) same in omega (arith, never))
end_told ends.Dead ends.Dead r s low also is also_is same = (refl, ap (drop 5) same)
end_told ends.Dead (ends.Act other) r s low also is also_is same = absurd (let never : 100 ≡ 97 = ap (letter 1) same in omega (arith, never))
end_told ends.Dead (ends.Short other others) r s low also is also_is same = absurd (let never : 100 ≡ 115 = ap (letter 1) same in omega (arith, never))
end_told ends.Dead (ends.Entry other) r s low also is also_is same = absurd (let never : 100 ≡ 101 = ap (letter 1) same in omega (arith, never))
end_told (ends.Act place) ends.Frame r s low also is also_is same = absurd (let never : 97 ≡ 102 = ap (letter 1) same in omega (arith, never))
end_told (ends.Act place) ends.Refused r s low also is also_is same = absurd (let never : 97 ≡ 114 = ap (letter 1) same in omega (arith, never))
end_told (ends.Act place) ends.Dead r s low also is also_is same = absurd (let never : 97 ≡ 100 = ap (letter 1) same in omega (arith, never))
end_told (ends.Act place) (ends.Act other) r s low also is also_is same =
    let parts : (place ≡ other) × (r ≡ s) = number place other r s low also is.breaks also_is.breaks (ap (drop 4) same) in
    (ap (λ (n : ℕ). ends.Act n) parts.0, parts.1)
end_told (ends.Act place) (ends.Short other others) r s low also is also_is same = absurd (let never : 97 ≡ 115 = ap (letter 1) same in omega (arith, never))
end_told (ends.Act place) (ends.Entry other) r s low also is also_is same = absurd (let never : 97 ≡ 101 = ap (letter 1) same in omega (arith, never))
end_told (ends.Short place held) ends.Frame r s low also is also_is same = absurd (let never : 115 ≡ 102 = ap (letter 1) same in omega (arith, never))
end_told (ends.Short place held) ends.Refused r s low also is also_is same = absurd (let never : 115 ≡ 114 = ap (letter 1) same in omega (arith, never))
end_told (ends.Short place held) ends.Dead r s low also is also_is same = absurd (let never : 115 ≡ 100 = ap (letter 1) same in omega (arith, never))
end_told (ends.Short place held) (ends.Act other) r s low also is also_is same = absurd (let never : 115 ≡ 97 = ap (letter 1) same in omega (arith, never))
end_told (ends.Short place held) (ends.Short other others) r s low also is also_is same =
    let first : (place ≡ other) × (flat_map held_words held ++ r ≡ flat_map held_words others ++ s) =
    number place other (flat_map held_words held ++ r) (flat_map held_words others ++ s) low.0 also.0
    (held_breaks held r is.breaks) (held_breaks others s also_is.breaks)
    (sym (append_assoc (spaced place) (flat_map held_words held) r) ∙ ap (drop 6) same ∙ append_assoc (spaced other) (flat_map held_words others) s) in
    let more : (held ≡ others) × (r ≡ s) = helds held others r s low.1 also.1 is also_is first.1 in
    (short_of place other held others first.0 more.0, more.1)
end_told (ends.Short place held) (ends.Entry other) r s low also is also_is same = absurd (let never : 115 ≡ 101 = ap (letter 1) same in omega (arith, never))
end_told (ends.Entry number_one) ends.Frame r s low also is also_is same = absurd (let never : 101 ≡ 102 = ap (letter 1) same in omega (arith, never))
end_told (ends.Entry number_one) ends.Refused r s low also is also_is same = absurd (let never : 101 ≡ 114 = ap (letter 1) same in omega (arith, never))
end_told (ends.Entry number_one) ends.Dead r s low also is also_is same = absurd (let never : 101 ≡ 100 = ap (letter 1) same in omega (arith, never))
end_told (ends.Entry number_one) (ends.Act other) r s low also is also_is same = absurd (let never : 101 ≡ 97 = ap (letter 1) same in omega (arith, never))
end_told (ends.Entry number_one) (ends.Short other others) r s low also is also_is same = absurd (let never : 101 ≡ 115 = ap (letter 1) same in omega (arith, never))
end_told (ends.Entry number_one) (ends.Entry other) r s low also is also_is same =
    let parts : (number_one ≡ other) × (r ≡ s) = number number_one other r s low also is.breaks also_is.breaks (ap (drop 6) same) in
    (ap (λ (n : ℕ). ends.Entry n) parts.0, parts.1)

-- a reply, to the end of its line

-- what follows the registers
abbrev tail : List ℕ → List ℕ → List ℕ
tail bytes r = bytes_words bytes ++ (10 ∷ r)

some_bytes : (b : ℕ) (bs : List ℕ) → bytes_words (b ∷ bs) ≡ codes " : " ++ flat_map byte_text (b ∷ bs)
some_bytes b bs =
    let some : (length (b ∷ bs) == 0) ≡ false = (let long : length (b ∷ bs) ≡ length bs + 1 = omega arith in grind (arith, nat_tests)) in
    rw some refl

tail_some : (b : ℕ) (bs r : List ℕ) → tail (b ∷ bs) r ≡ 32 ∷ (58 ∷ (32 ∷ (flat_map byte_text (b ∷ bs) ++ (10 ∷ r))))
tail_some b bs r = ap (λ (l : List ℕ). l ++ (10 ∷ r)) (some_bytes b bs)

colon : 16 ≤ digit_value 58
colon = (let value : digit_value 58 ≡ 36 = refl in omega (arith, value))

-- a space and a colon begin no number
colon_ends : (r : List ℕ) → Ends (32 ∷ (58 ∷ r))
colon_ends r = record {
  breaks = space_digit;
  stops = λ c cs same. (let head : 58 ≡ c = ap (letter 1) same in subst (λ (one : ℕ). 16 ≤ digit_value one) head colon);
}

tail_ends : (bs r : List ℕ) → Ends (tail bs r)
tail_ends [] r = ends_line r
tail_ends (b ∷ bs) r = subst Ends (sym (tail_some b bs r)) (colon_ends (32 ∷ (flat_map byte_text (b ∷ bs) ++ (10 ∷ r))))

pub line_breaks : (r : List ℕ) → Breaks (10 ∷ r)
line_breaks r = (ends_line r).breaks

tails : (xs ys r s : List ℕ) → AllByRecursion IsByte xs → AllByRecursion IsByte ys → tail xs r ≡ tail ys s → (xs ≡ ys) × (r ≡ s)
tails [] [] r s low also same = (refl, ap (drop 1) same)
tails [] (y ∷ ys) r s low also same = absurd (let never : 10 ≡ 32 = ap (letter 0) (same ∙ tail_some y ys s) in omega (arith, never))
tails (x ∷ xs) [] r s low also same = absurd (let never : 32 ≡ 10 = ap (letter 0) (sym (tail_some x xs r) ∙ same) in omega (arith, never))
tails (x ∷ xs) (y ∷ ys) r s low also same =
    let parts : (x ∷ xs ≡ y ∷ ys) × (10 ∷ r ≡ 10 ∷ s) =
    bytes (x ∷ xs) (y ∷ ys) (10 ∷ r) (10 ∷ s) low also (line_breaks r) (line_breaks s)
    (ap (drop 3) (sym (tail_some x xs r) ∙ same ∙ tail_some y ys s)) in
    (parts.0, ap (drop 1) parts.1)

same_reply : (x y : Reply) → x.x ≡ y.x → x.bytes ≡ y.bytes → x ≡ y
same_reply x y first second = ap (λ (one : List ℕ). with_registers one) first ∙ ap (λ (one : List ℕ). with_bytes one) second
  where
    with_registers : List ℕ → Reply
    with_registers one = record { x = one; bytes = x.bytes }

    with_bytes : List ℕ → Reply
    with_bytes one = record { x = y.x; bytes = one }

pub reply_told : (x y : Reply) (r s : List ℕ) → ReplyFits x → ReplyFits y → reply_words x ++ (10 ∷ r) ≡ reply_words y ++ (10 ∷ s)
    → (x ≡ y) × (r ≡ s)
reply_told x y r s low also same =
    let nested : flat_map spaced_register x.x ++ tail x.bytes r ≡ flat_map spaced_register y.x ++ tail y.bytes s =
    sym (append_assoc (flat_map spaced_register x.x) (bytes_words x.bytes) (10 ∷ r)) ∙ ap (drop 2) same
    ∙ append_assoc (flat_map spaced_register y.x) (bytes_words y.bytes) (10 ∷ s) in
    let first : (x.x ≡ y.x) × (tail x.bytes r ≡ tail y.bytes s) =
    registers_in_row x.x y.x (tail x.bytes r) (tail y.bytes s) low.registers also.registers (tail_ends x.bytes r) (tail_ends y.bytes s) nested in
    let more : (x.bytes ≡ y.bytes) × (r ≡ s) = tails x.bytes y.bytes r s low.bytes also.bytes first.1 in
    (same_reply x y first.0 more.0, more.1)

reply_is : (x : Reply) (r : List ℕ) → IsReply (reply_words x ++ r)
reply_is x r = record { breaks = space_digit; mark = refl }

-- an end is no look

end_is : (e : End) (r : List ℕ) → NoLook (end_words e ++ r)
end_is ends.Frame r = record { breaks = space_digit; other = refl }
end_is ends.Refused r = record { breaks = space_digit; other = refl }
end_is ends.Dead r = record { breaks = space_digit; other = refl }
end_is (ends.Act place) r = record { breaks = space_digit; other = refl }
end_is (ends.Short place held) r = record { breaks = space_digit; other = refl }
end_is (ends.Entry at) r = record { breaks = space_digit; other = refl }

-- the line of a call

joined_mark : (x y : Mark) → x.cpu.0 ≡ y.cpu.0 → x.number ≡ y.number → x.section ≡ y.section → map told_look x.looks ≡ map told_look y.looks
    → x.end ≡ y.end → x.reply ≡ y.reply → told x ≡ told y
joined_mark x y cpu of section seen end answer =
    ap (λ (n : ℕ). by_cpu_no n) cpu ∙ ap (λ (n : ℕ). by_number n) of ∙ ap (λ (n : ℕ). by_section n) section
    ∙ ap (λ (l : List Look). by_looks l) seen ∙ ap (λ (e : End). by_end e) end ∙ ap (λ (r : Reply). by_reply r) answer
  where
    by_cpu_no : ℕ → Mark
    by_cpu_no n = record { cpu = record { 0 = n }; number = x.number; section = x.section; looks = map told_look x.looks; end = x.end; reply = x.reply }

    by_number : ℕ → Mark
    by_number n = record { cpu = y.cpu; number = n; section = x.section; looks = map told_look x.looks; end = x.end; reply = x.reply }

    by_section : ℕ → Mark
    by_section n = record { cpu = y.cpu; number = y.number; section = n; looks = map told_look x.looks; end = x.end; reply = x.reply }

    by_looks : List Look → Mark
    by_looks l = record { cpu = y.cpu; number = y.number; section = y.section; looks = l; end = x.end; reply = x.reply }

    by_end : End → Mark
    by_end e = record { cpu = y.cpu; number = y.number; section = y.section; looks = map told_look y.looks; end = e; reply = x.reply }

    by_reply : Reply → Mark
    by_reply r = record { cpu = y.cpu; number = y.number; section = y.section; looks = map told_look y.looks; end = y.end; reply = r }

-- what follows the front of a call's line
abbrev after_head : Mark → List ℕ → List ℕ
after_head mark r = flat_map look_words mark.looks ++ (end_words mark.end ++ (reply_words mark.reply ++ (10 ∷ r)))

looks_break : (xs : List Look) (r : List ℕ) → Breaks r → Breaks (flat_map look_words xs ++ r)
looks_break [] r breaks = breaks
looks_break (x ∷ xs) r breaks = space_digit

nested : (mark : Mark) (r : List ℕ) → call_line mark ++ r ≡ call_head mark ++ after_head mark r
nested mark r =
    append_assoc (call_head mark) (flat_map look_words mark.looks ++ (end_words mark.end ++ (reply_words mark.reply ++ codes "\n"))) r
    ∙ ap (λ (l : List ℕ). call_head mark ++ l)
    (append_assoc (flat_map look_words mark.looks) (end_words mark.end ++ (reply_words mark.reply ++ codes "\n")) r
    ∙ ap (λ (l : List ℕ). flat_map look_words mark.looks ++ l)
    (append_assoc (end_words mark.end) (reply_words mark.reply ++ codes "\n") r
    ∙ ap (λ (l : List ℕ). end_words mark.end ++ l) (append_assoc (reply_words mark.reply) (codes "\n") r)))

pub call_told : (x y : Mark) (r s : List ℕ) → MarkFits x → MarkFits y → call_line x ++ r ≡ call_line y ++ s → (told x ≡ told y) × (r ≡ s)
call_told x y r s low also same =
    let fronts = three x.cpu.0 x.number x.section y.cpu.0 y.number y.section (after_head x r) (after_head y s)
    (low.cpu, (low.number, low.section)) (also.cpu, (also.number, also.section))
    (looks_break x.looks _ (end_is x.end _).breaks) (looks_break y.looks _ (end_is y.end _).breaks)
    (ap (drop 4) (sym (nested x r) ∙ same ∙ nested y s)) in
    let seen = looks x.looks y.looks (end_words x.end ++ (reply_words x.reply ++ (10 ∷ r))) (end_words y.end ++ (reply_words y.reply ++ (10 ∷ s)))
    low.looks also.looks (end_is x.end _) (end_is y.end _) fronts.1.1.1 in
    let end = end_told x.end y.end (reply_words x.reply ++ (10 ∷ r)) (reply_words y.reply ++ (10 ∷ s)) low.end also.end
    (reply_is x.reply _) (reply_is y.reply _) seen.1 in
    let answer = reply_told x.reply y.reply r s low.reply also.reply end.1 in
    (joined_mark x y fronts.0 fronts.1.0 fronts.1.1.0 seen.0 end.0 answer.0, answer.1)

-- entries

same_act : (a b : CpuNo) (m n : ℕ) → a.0 ≡ b.0 → m ≡ n → Acted a m ≡ Acted b n
same_act a b m n first second = ap (λ (k : ℕ). by_cpu k) first ∙ ap (λ (k : ℕ). Acted b k) second
  where
    by_cpu : ℕ → Entry
    by_cpu k = Acted (record { 0 = k }) m

same_part : (a b : CpuNo) (m n : ℕ) (c d : Serial) (i j : ℕ) → a.0 ≡ b.0 → m ≡ n → c.0 ≡ d.0 → i ≡ j → Part a m c i ≡ Part b n d j
same_part a b m n c d i j first second third fourth =
    ap (λ (k : ℕ). by_cpu k) first ∙ ap (λ (k : ℕ). Part b k c i) second ∙ ap (λ (k : ℕ). by_space k) third ∙ ap (λ (k : ℕ). Part b n d k) fourth
  where
    by_cpu : ℕ → Entry
    by_cpu k = Part (record { 0 = k }) m c i

    by_space : ℕ → Entry
    by_space k = Part b n (record { 0 = k }) i

same_retired : (a b : Serial) (m n : List ℕ) → a.0 ≡ b.0 → m ≡ n → Retired a m ≡ Retired b n
same_retired a b m n first second = ap (λ (k : ℕ). by_serial k) first ∙ ap (λ (k : List ℕ). Retired b k) second
  where
    by_serial : ℕ → Entry
    by_serial k = Retired (record { 0 = k }) m

same_reclaimed : (a b : Serial) (m n : List ℕ) → a.0 ≡ b.0 → m ≡ n → Reclaimed a m ≡ Reclaimed b n
same_reclaimed a b m n first second = ap (λ (k : ℕ). by_serial k) first ∙ ap (λ (k : List ℕ). Reclaimed b k) second
  where
    by_serial : ℕ → Entry
    by_serial k = Reclaimed (record { 0 = k }) m

-- a serial with counters
counted : (a b : Serial) (m n r s : List ℕ) → IsWord a.0 × AllByRecursion IsWord m → IsWord b.0 × AllByRecursion IsWord n
    → (spaced a.0 ++ flat_map spaced m) ++ (10 ∷ r) ≡ (spaced b.0 ++ flat_map spaced n) ++ (10 ∷ s) → (a.0 ≡ b.0) × ((m ≡ n) × (r ≡ s))
counted a b m n r s low also same =
    let first : (a.0 ≡ b.0) × (flat_map spaced m ++ (10 ∷ r) ≡ flat_map spaced n ++ (10 ∷ s)) =
    number a.0 b.0 (flat_map spaced m ++ (10 ∷ r)) (flat_map spaced n ++ (10 ∷ s)) low.0 also.0 (row_breaks m (10 ∷ r) (line_breaks r))
    (row_breaks n (10 ∷ s) (line_breaks s))
    (sym (append_assoc (spaced a.0) (flat_map spaced m) (10 ∷ r)) ∙ same ∙ append_assoc (spaced b.0) (flat_map spaced n) (10 ∷ s)) in
    let more : (m ≡ n) × (10 ∷ r ≡ 10 ∷ s) = numbers m n (10 ∷ r) (10 ∷ s) low.1 also.1 (ends_line r) (ends_line s) first.1 in
    (first.0, (more.0, ap (drop 1) more.1))
  where
    row_breaks : (xs t : List ℕ) → Breaks t → Breaks (flat_map spaced xs ++ t)
    row_breaks [] t breaks = breaks
    row_breaks (x ∷ xs) t breaks = space_digit

pub entry_told : (x y : Entry) (r s : List ℕ) → EntryFits x → EntryFits y → entry_words x ++ (10 ∷ r) ≡ entry_words y ++ (10 ∷ s)
    → (x ≡ y) × (r ≡ s)
entry_told (Acted a m) (Acted b n) r s low also same =
    let parts = two a.0 m b.0 n (10 ∷ r) (10 ∷ s) low also (line_breaks r) (line_breaks s) (ap (drop 4) same) in
    (same_act a b m n parts.0 parts.1.0, ap (drop 1) parts.1.1)
entry_told (Part a m c i) (Part b n d j) r s low also same =
    let parts = four a.0 m c.0 i b.0 n d.0 j (10 ∷ r) (10 ∷ s) low also (line_breaks r) (line_breaks s) (ap (drop 5) same) in
    (same_part a b m n c d i j parts.0 parts.1.0 parts.1.1.0 parts.1.1.1.0, ap (drop 1) parts.1.1.1.1)
entry_told (Retired a m) (Retired b n) r s low also same =
    let parts = counted a b m n r s low also (ap (drop 7) same) in
    (same_retired a b m n parts.0 parts.1.0, parts.1.1)
entry_told (Reclaimed a m) (Reclaimed b n) r s low also same =
    let parts = counted a b m n r s low also (ap (drop 8) same) in
    (same_reclaimed a b m n parts.0 parts.1.0, parts.1.1)
entry_told (Acted a m) (Part b n d j) r s low also same = absurd (let never : 97 ≡ 112 = ap (letter 1) same in omega (arith, never))
entry_told (Acted a m) (Retired b n) r s low also same = absurd (let never : 97 ≡ 114 = ap (letter 1) same in omega (arith, never))
entry_told (Acted a m) (Reclaimed b n) r s low also same = absurd (let never : 97 ≡ 114 = ap (letter 1) same in omega (arith, never))
entry_told (Part a m c i) (Acted b n) r s low also same = absurd (let never : 112 ≡ 97 = ap (letter 1) same in omega (arith, never))
entry_told (Part a m c i) (Retired b n) r s low also same = absurd (let never : 112 ≡ 114 = ap (letter 1) same in omega (arith, never))
entry_told (Part a m c i) (Reclaimed b n) r s low also same = absurd (let never : 112 ≡ 114 = ap (letter 1) same in omega (arith, never))
entry_told (Retired a m) (Acted b n) r s low also same = absurd (let never : 114 ≡ 97 = ap (letter 1) same in omega (arith, never))
entry_told (Retired a m) (Part b n d j) r s low also same = absurd (let never : 114 ≡ 112 = ap (letter 1) same in omega (arith, never))
entry_told (Retired a m) (Reclaimed b n) r s low also same = absurd (let never : 116 ≡ 99 = ap (letter 3) same in omega (arith, never))
entry_told (Reclaimed a m) (Acted b n) r s low also same = absurd (let never : 114 ≡ 97 = ap (letter 1) same in omega (arith, never))
entry_told (Reclaimed a m) (Part b n d j) r s low also same = absurd (let never : 114 ≡ 112 = ap (letter 1) same in omega (arith, never))
entry_told (Reclaimed a m) (Retired b n) r s low also same = absurd (let never : 99 ≡ 116 = ap (letter 3) same in omega (arith, never))
