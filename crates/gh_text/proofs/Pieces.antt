-- Numbers and words of a text are read back one by one, from the left.
use Rattle.std.specs.Prelude.{⊤}
use Rattle.std.proofs.Common.{◌≡◌, ◌+◌, ◌<◌, ◌≤◌, ◌^◌, ◌/◌, ◌%◌, ◌∙◌, ℕ, Bool, true, false, List, [], ◌∷◌, ◌++◌, ap, arith, codes, drop, length, lit≤, refl, slice_index_or, subst, sym}
use Rattle.std.proofs.lemmas.List.{append_assoc}
use Rattle.std.proofs.lemmas.Fmt.{decimal_injective, decimal_is_IsNumeral, digits_is_IsNumeral, hex_one_digit}
use Rattle.std.specs.Char.{digit_value}
use Rattle.std.specs.Fmt.{decimal, digits, digit_glyph}
use Rattle.std.specs.List.{AllByRecursion, flat_map}
use Rattle.std.specs.Str.Parse.{AllDigits, digits_value}
use Rattle.gh_model.specs.Text.{byte_text, spaced, spaced_register}
use Rattle.gh_text.specs.Told.{IsByte, IsWord}

-- what follows a number begins with no digit
abbrev pub Breaks : List ℕ → Type 0
Breaks [] = ⊤
Breaks (c ∷ cs) = 16 ≤ digit_value c

-- two texts with the same front have the same rest
pub same_rest : (front : List ℕ) (r s : List ℕ) → front ++ r ≡ front ++ s → r ≡ s
same_rest [] r s same = same
same_rest (c ∷ cs) r s same = same_rest cs r s (ap (drop 1) same)

joined : (x y : ℕ) (xs ys : List ℕ) → x ≡ y → xs ≡ ys → x ∷ xs ≡ y ∷ ys
joined x y xs ys head tail = cc

-- digits end where the rest breaks off
split : (base : ℕ) → base ≤ 16 → (a b r s : List ℕ) → AllDigits base a → AllDigits base b → Breaks r → Breaks s
    → a ++ r ≡ b ++ s → (a ≡ b) × (r ≡ s)
split base low [] [] r s first second ends also same = (refl, same)
split base low [] (y ∷ ys) r s first second ends also same =
    let broken : 16 ≤ digit_value y = subst Breaks same ends in
    absurd (let never : ⊥ = omega (arith, broken, second.0, low) in never)
split base low (x ∷ xs) [] r s first second ends also same =
    let broken : 16 ≤ digit_value x = subst Breaks (sym same) also in
    absurd (let never : ⊥ = omega (arith, broken, first.0, low) in never)
split base low (x ∷ xs) (y ∷ ys) r s first second ends also same =
    let head : x ≡ y = cc in
    let more : (xs ≡ ys) × (r ≡ s) = split base low xs ys r s first.1 second.1 ends also (ap (drop 1) same) in
    (joined x y xs ys head more.0, more.1)

decimals : (n m : ℕ) (r s : List ℕ) → IsWord n → IsWord m → Breaks r → Breaks s → decimal n ++ r ≡ decimal m ++ s → (n ≡ m) × (r ≡ s)
decimals n m r s low also ends end same =
    let parts : (decimal n ≡ decimal m) × (r ≡ s) =
    split 10 (lit≤ tt) (decimal n) (decimal m) r s (decimal_is_IsNumeral n low).0.1 (decimal_is_IsNumeral m also).0.1 ends end same in
    (decimal_injective n m low also parts.0, parts.1)

-- a space and a number
pub number : (n m : ℕ) (r s : List ℕ) → IsWord n → IsWord m → Breaks r → Breaks s → spaced n ++ r ≡ spaced m ++ s → (n ≡ m) × (r ≡ s)
number n m r s low also ends end same = decimals n m r s low also ends end (ap (drop 1) same)

-- a space and a register

few : (n : ℕ) → IsWord n → n < 16 ^ 64
few n low = omega (arith, low, (let wide : 2 ^ 64 ≤ 16 ^ 64 = lit≤ tt in wide))

abbrev register_text : ℕ → List ℕ
register_text n = digits 16 false n

registers : (n m : ℕ) → IsWord n → IsWord m → register_text n ≡ register_text m → n ≡ m
registers n m low also same =
    sym (digits_is_IsNumeral 16 false (lit≤ tt) (lit≤ tt) n (few n low)).1 ∙ ap (digits_value 16) same
    ∙ (digits_is_IsNumeral 16 false (lit≤ tt) (lit≤ tt) m (few m also)).1

pub register : (n m : ℕ) (r s : List ℕ) → IsWord n → IsWord m → Breaks r → Breaks s → spaced_register n ++ r ≡ spaced_register m ++ s
    → (n ≡ m) × (r ≡ s)
register n m r s low also ends end same =
    let parts : (register_text n ≡ register_text m) × (r ≡ s) =
    split 16 (lit≤ tt) (register_text n) (register_text m) r s (digits_is_IsNumeral 16 false (lit≤ tt) (lit≤ tt) n (few n low)).0.1
    (digits_is_IsNumeral 16 false (lit≤ tt) (lit≤ tt) m (few m also)).0.1 ends end (ap (drop 1) same) in
    (registers n m low also parts.0, parts.1)

-- numbers in a row

-- digits begin with a digit
begins : (base : ℕ) → base ≤ 16 → (ds r : List ℕ) (c : ℕ) (cs : List ℕ) → 0 < length ds → AllDigits base ds → ds ++ r ≡ c ∷ cs
    → digit_value c < 16
begins base low [] r c cs some all same = absurd (let never : ⊥ = omega (arith, some) in never)
begins base low (d ∷ ds) r c cs some all same =
    let head : d ≡ c = cc in
    let first : digit_value d < base = all.0 in
    subst (λ (one : ℕ). digit_value one < 16) head (omega (arith, first, low))

pub decimal_begins : (n : ℕ) (r : List ℕ) (c : ℕ) (cs : List ℕ) → IsWord n → decimal n ++ r ≡ c ∷ cs → digit_value c < 16
decimal_begins n r c cs low same =
    begins 10 (lit≤ tt) (decimal n) r c cs (decimal_is_IsNumeral n low).0.0 (decimal_is_IsNumeral n low).0.1 same

register_begins : (n : ℕ) (r : List ℕ) (c : ℕ) (cs : List ℕ) → IsWord n → register_text n ++ r ≡ c ∷ cs → digit_value c < 16
register_begins n r c cs low same =
    let is = (digits_is_IsNumeral 16 false (lit≤ tt) (lit≤ tt) n (few n low)).0 in
    begins 16 (lit≤ tt) (register_text n) r c cs is.0 is.1 same

-- what follows numbers begins with no digit, and with no space and a digit
pub record Ends (rest : List ℕ) : Type 0 where
  pub breaks : Breaks rest
  pub stops : (c : ℕ) (cs : List ℕ) → rest ≡ 32 ∷ (c ∷ cs) → 16 ≤ digit_value c

module _ (text : ℕ → List ℕ)
    (one : (n m : ℕ) (r s : List ℕ) → IsWord n → IsWord m → Breaks r → Breaks s → (32 ∷ text n) ++ r ≡ (32 ∷ text m) ++ s
    → (n ≡ m) × (r ≡ s))
    (digit : (n : ℕ) (r : List ℕ) (c : ℕ) (cs : List ℕ) → IsWord n → text n ++ r ≡ c ∷ cs → digit_value c < 16)
    (some : (n : ℕ) (r : List ℕ) → IsWord n → text n ++ r ≡ [] → ⊥) where
  abbrev word : ℕ → List ℕ
  word n = 32 ∷ text n

  breaks_on : (xs r : List ℕ) → Breaks r → Breaks (flat_map word xs ++ r)
  breaks_on [] r ends = ends
  breaks_on (x ∷ xs) r ends = (let value : digit_value 32 ≡ 36 = refl in omega (arith, value))

  -- a number where the numbers end
  over : (n : ℕ) (r t : List ℕ) → IsWord n → Ends t → t ≡ 32 ∷ (text n ++ r) → ⊥
  over n r t low ends same = over_by (text n ++ r) refl
    where
      over_by : (rest : List ℕ) → text n ++ r ≡ rest → ⊥
      over_by [] is = some n r low is
      over_by (c ∷ cs) is =
          let stopped : 16 ≤ digit_value c = ends.stops c cs (same ∙ ap (λ (more : List ℕ). 32 ∷ more) is) in
          let begun : digit_value c < 16 = digit n r c cs low is in
          omega (arith, stopped, begun)

  in_row : (xs ys t u : List ℕ) → AllByRecursion IsWord xs → AllByRecursion IsWord ys → Ends t → Ends u
      → flat_map word xs ++ t ≡ flat_map word ys ++ u → (xs ≡ ys) × (t ≡ u)
  in_row [] [] t u low also ends end same = (refl, same)
  in_row [] (y ∷ ys) t u low also ends end same =
      absurd (over y (flat_map word ys ++ u) t also.0 ends (same ∙ append_assoc (word y) (flat_map word ys) u))
  in_row (x ∷ xs) [] t u low also ends end same =
      absurd (over x (flat_map word xs ++ t) u low.0 end (sym same ∙ append_assoc (word x) (flat_map word xs) t))
  in_row (x ∷ xs) (y ∷ ys) t u low also ends end same =
      let nested : word x ++ (flat_map word xs ++ t) ≡ word y ++ (flat_map word ys ++ u) =
      sym (append_assoc (word x) (flat_map word xs) t) ∙ same ∙ append_assoc (word y) (flat_map word ys) u in
      let first : (x ≡ y) × (flat_map word xs ++ t ≡ flat_map word ys ++ u) =
      one x y (flat_map word xs ++ t) (flat_map word ys ++ u) low.0 also.0 (breaks_on xs t ends.breaks) (breaks_on ys u end.breaks) nested in
      let more : (xs ≡ ys) × (t ≡ u) = in_row xs ys t u low.1 also.1 ends end first.1 in
      (joined x y xs ys first.0 more.0, more.1)

none_more : (base : ℕ) (ds r : List ℕ) → 0 < length ds → ds ++ r ≡ [] → ⊥
none_more base [] r some same = omega (arith, some)
none_more base (d ∷ ds) r some same = cc

pub numbers : (xs ys t u : List ℕ) → AllByRecursion IsWord xs → AllByRecursion IsWord ys → Ends t → Ends u
    → flat_map spaced xs ++ t ≡ flat_map spaced ys ++ u → (xs ≡ ys) × (t ≡ u)
numbers = in_row decimal number decimal_begins (λ n r low. none_more 10 (decimal n) r (decimal_is_IsNumeral n low).0.0)

pub registers_in_row : (xs ys t u : List ℕ) → AllByRecursion IsWord xs → AllByRecursion IsWord ys → Ends t → Ends u
    → flat_map spaced_register xs ++ t ≡ flat_map spaced_register ys ++ u → (xs ≡ ys) × (t ≡ u)
registers_in_row =
    in_row register_text register register_begins
    (λ n r low. none_more 16 (register_text n) r (digits_is_IsNumeral 16 false (lit≤ tt) (lit≤ tt) n (few n low)).0.0)

-- a line that ends
pub ends_line : (r : List ℕ) → Ends (10 ∷ r)
ends_line r = record {
  breaks = (let value : digit_value 10 ≡ 36 = refl in omega (arith, value));
  stops = λ c cs same. absurd (let never : ⊥ = cc in never);
}

-- bytes, two hexadecimal digits each

glyph_is : (d : ℕ) → d < 16 → register_text d ≡ digit_glyph false d ∷ []
glyph_is d low = hex_one_digit false d low

small : (d : ℕ) → d < 16 → IsWord d
small d low = omega (arith, low, (let wide : 16 ≤ 2 ^ 64 = lit≤ tt in wide))

same_glyph : (d e : ℕ) → d < 16 → e < 16 → digit_glyph false d ≡ digit_glyph false e → d ≡ e
same_glyph d e low also same =
    registers d e (small d low) (small e also) (glyph_is d low ∙ ap (λ (g : ℕ). g ∷ []) same ∙ sym (glyph_is e also))

glyph_digit : (d : ℕ) → d < 16 → digit_value (digit_glyph false d) < 16
glyph_digit d low = register_begins d [] (digit_glyph false d) [] (small d low) (ap (λ (ds : List ℕ). ds ++ []) (glyph_is d low))

same_byte : (b c : ℕ) → b / 16 ≡ c / 16 → b % 16 ≡ c % 16 → b ≡ c
same_byte b c high low = omega (arith, high, low)

no_glyph : (b : ℕ) (r t : List ℕ) → IsByte b → Breaks t → t ≡ digit_glyph false (b / 16) ∷ r → ⊥
no_glyph b r t low breaks same =
    let broken : 16 ≤ digit_value (digit_glyph false (b / 16)) = subst Breaks same breaks in
    let high : b / 16 < 16 = omega (arith, low) in
    omega (arith, broken, glyph_digit (b / 16) high)

pub bytes : (xs ys t u : List ℕ) → AllByRecursion IsByte xs → AllByRecursion IsByte ys → Breaks t → Breaks u
    → flat_map byte_text xs ++ t ≡ flat_map byte_text ys ++ u → (xs ≡ ys) × (t ≡ u)
bytes [] [] t u low also ends end same = (refl, same)
bytes [] (y ∷ ys) t u low also ends end same = absurd (no_glyph y (digit_glyph false (y % 16) ∷ (flat_map byte_text ys ++ u)) t also.0 ends same)
bytes (x ∷ xs) [] t u low also ends end same = absurd (no_glyph x (digit_glyph false (x % 16) ∷ (flat_map byte_text xs ++ t)) u low.0 end (sym same))
bytes (x ∷ xs) (y ∷ ys) t u low also ends end same =
    let high : digit_glyph false (x / 16) ≡ digit_glyph false (y / 16) = ap (λ (l : List ℕ). slice_index_or l 0 0) same in
    let low_one : digit_glyph false (x % 16) ≡ digit_glyph false (y % 16) = ap (λ (l : List ℕ). slice_index_or l 1 0) same in
    let more : (xs ≡ ys) × (t ≡ u) = bytes xs ys t u low.1 also.1 ends end (ap (drop 2) same) in
    let x_low : x < 256 = low.0 in
    let y_low : y < 256 = also.0 in (
      joined x y xs ys (same_byte x y (same_glyph (x / 16) (y / 16) (omega (arith, x_low)) (omega (arith, y_low)) high)
          (same_glyph (x % 16) (y % 16) (omega arith) (omega arith) low_one)) more.0,
      more.1,
    )
