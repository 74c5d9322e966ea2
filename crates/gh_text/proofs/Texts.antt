-- A history text is read back: its entries, its calls and its state part.
use Rattle.std.specs.Prelude.{⊤}
use Rattle.std.proofs.Common.{◌≡◌, ◌+◌, ◌<◌, ◌≤◌, ◌^◌, ◌∙◌, ℕ, Bool, true, false, List, [], ◌∷◌, ◌++◌, ap, arith, codes, drop, filter, length, lit≤, map, refl, subst, suc, sym, if◌then◌else◌}
use Rattle.std.proofs.lemmas.List.{append_assoc}
use Rattle.std.proofs.lemmas.Fmt.{decimal_is_IsNumeral}
use Rattle.std.proofs.lemmas.Grind.{flat_map-append}
use Rattle.std.specs.Char.{digit_value}
use Rattle.std.specs.Fmt.{decimal}
use Rattle.std.specs.List.{AllByRecursion, enumerate_from, flat_map}
use Rattle.std.specs.Str.Parse.{AllDigits}
use Rattle.gh_base.specs.declared.mark.Mark.{Mark}
use Rattle.gh_model.specs.Order.{cpus_in_order}
use Rattle.gh_model.specs.Run.{is_mark_of}
use Rattle.gh_model.specs.Text.{call_line, calls_part, cpu_lines, entries_part, entry_line, entry_words, history_text, spaced, state_part}
use Rattle.gh_model.specs.declared.entry.Entry.{Entry}
use Rattle.gh_model.specs.declared.rows.CpuRow.{CpuRow}
use Rattle.gh_model.specs.declared.state.State.{State}
use Rattle.gh_text.specs.Told.{EntryFits, IsWord, MarkFits, RunFits, by_cpu, marks_of, told}
use Rattle.gh_text.proofs.Lines.{call_told, entry_told, letter, line_breaks}
use Rattle.gh_text.proofs.Pieces.{number, same_rest}

-- entries

-- a number begins with no letter c
first_digit : (ds r : List ℕ) → 0 < length ds → AllDigits 10 ds → letter 0 (ds ++ r) ≡ 99 → ⊥
first_digit [] r some all is = omega (arith, some)
first_digit (d ∷ ds) r some all is =
    let low : digit_value d < 10 = all.0 in
    let same : d ≡ 99 = is in
    let twelve : digit_value 99 < 10 = subst (λ (c : ℕ). digit_value c < 10) same low in
    let value : digit_value 99 ≡ 12 = refl in
    omega (arith, twelve, value)

no_number : (n : ℕ) (r : List ℕ) → IsWord n → letter 0 (decimal n ++ r) ≡ 99 → ⊥
no_number n r low is = first_digit (decimal n) r (decimal_is_IsNumeral n low).0.0 (decimal_is_IsNumeral n low).0.1 is

joined_entry : (x y : Entry) (xs ys : List Entry) → x ≡ y → xs ≡ ys → x ∷ xs ≡ y ∷ ys
joined_entry x y xs ys head rest = cc

line_nested : (n : ℕ) (x : Entry) (more t : List ℕ) → (entry_line (n, x) ++ more) ++ t ≡ decimal n ++ (entry_words x ++ (10 ∷ (more ++ t)))
line_nested n x more t =
    append_assoc (entry_line (n, x)) more t
    ∙ append_assoc (decimal n) (entry_words x ++ codes "\n") (more ++ t)
    ∙ ap (λ (l : List ℕ). decimal n ++ l) (append_assoc (entry_words x) (codes "\n") (more ++ t))

entries_told : (from : ℕ) (xs ys : List Entry) (t u : List ℕ) → from + length xs ≤ 2 ^ 64 → from + length ys ≤ 2 ^ 64
    → AllByRecursion EntryFits xs → AllByRecursion EntryFits ys → letter 0 t ≡ 99 → letter 0 u ≡ 99
    → flat_map entry_line (enumerate_from from xs) ++ t ≡ flat_map entry_line (enumerate_from from ys) ++ u → (xs ≡ ys) × (t ≡ u)
entries_told from [] [] t u few also fit fits c k same = (refl, same)
entries_told from [] (y ∷ ys) t u few also fit fits c k same =
    absurd (no_number from (entry_words y ++ (10 ∷ (flat_map entry_line (enumerate_from (from + 1) ys) ++ u))) (omega (arith, also))
    (ap (letter 0) (sym (line_nested from y (flat_map entry_line (enumerate_from (from + 1) ys)) u)) ∙ sym (ap (letter 0) same) ∙ c))
entries_told from (x ∷ xs) [] t u few also fit fits c k same =
    absurd (no_number from (entry_words x ++ (10 ∷ (flat_map entry_line (enumerate_from (from + 1) xs) ++ t))) (omega (arith, few))
    (ap (letter 0) (sym (line_nested from x (flat_map entry_line (enumerate_from (from + 1) xs)) t)) ∙ ap (letter 0) same ∙ k))
entries_told from (x ∷ xs) (y ∷ ys) t u few also fit fits c k same =
    let lines : decimal from ++ (entry_words x ++ (10 ∷ (flat_map entry_line (enumerate_from (from + 1) xs) ++ t)))
    ≡ decimal from ++ (entry_words y ++ (10 ∷ (flat_map entry_line (enumerate_from (from + 1) ys) ++ u))) =
    sym (line_nested from x (flat_map entry_line (enumerate_from (from + 1) xs)) t) ∙ same
    ∙ line_nested from y (flat_map entry_line (enumerate_from (from + 1) ys)) u in
    let one = entry_told x y (flat_map entry_line (enumerate_from (from + 1) xs) ++ t) (flat_map entry_line (enumerate_from (from + 1) ys) ++ u)
    fit.0 fits.0 (same_rest (decimal from) _ _ lines) in
    let more = entries_told (from + 1) xs ys t u (omega (arith, few)) (omega (arith, also)) fit.1 fits.1 c k one.1 in
    (joined_entry x y xs ys one.0 more.0, more.1)

-- calls

joined_told : (x y : Mark) (xs ys : List Mark) → told x ≡ told y → map told xs ≡ map told ys → map told (x ∷ xs) ≡ map told (y ∷ ys)
joined_told x y xs ys head rest =
    ap (λ (one : Mark). one ∷ map told xs) head ∙ ap (λ (list : List Mark). told y ∷ list) rest

calls_told : (xs ys : List Mark) (t u : List ℕ) → AllByRecursion MarkFits xs → AllByRecursion MarkFits ys → letter 0 t ≡ 115 → letter 0 u ≡ 115
    → flat_map call_line xs ++ t ≡ flat_map call_line ys ++ u → (map told xs ≡ map told ys) × (t ≡ u)
calls_told [] [] t u fit fits s z same = (refl, same)
calls_told [] (y ∷ ys) t u fit fits s z same = absurd (let never : 99 ≡ 115 = ap (letter 0) (sym same) ∙ s in omega (arith, never))
calls_told (x ∷ xs) [] t u fit fits s z same = absurd (let never : 99 ≡ 115 = ap (letter 0) same ∙ z in omega (arith, never))
calls_told (x ∷ xs) (y ∷ ys) t u fit fits s z same =
    let one = call_told x y (flat_map call_line xs ++ t) (flat_map call_line ys ++ u) fit.0 fits.0
    (sym (append_assoc (call_line x) (flat_map call_line xs) t) ∙ same ∙ append_assoc (call_line y) (flat_map call_line ys) u) in
    let more = calls_told xs ys t u fit.1 fits.1 s z one.1 in
    (joined_told x y xs ys one.0 more.0, more.1)

-- the lines CPU by CPU are those of the calls CPU by CPU
cpu_by_cpu : (marks : List Mark) (rows : List CpuRow) → flat_map (cpu_lines marks) rows ≡ flat_map call_line (by_cpu marks rows)
cpu_by_cpu marks [] = refl
cpu_by_cpu marks (row ∷ rows) =
    ap (λ (l : List ℕ). cpu_lines marks row ++ l) (cpu_by_cpu marks rows) ∙ sym (flat_map-append call_line (marks_of marks row) (by_cpu marks rows))

fit_append : (xs ys : List Mark) → AllByRecursion MarkFits xs → AllByRecursion MarkFits ys → AllByRecursion MarkFits (xs ++ ys)
fit_append [] ys fit fits = fits
fit_append (x ∷ xs) ys fit fits = (fit.0, fit_append xs ys fit.1 fits)

fit_if : (kept : Bool) (x : Mark) (xs : List Mark) → MarkFits x → AllByRecursion MarkFits xs → AllByRecursion MarkFits (if kept then x ∷ xs else xs)
fit_if true x xs one fit = (one, fit)
fit_if false x xs one fit = fit

fit_filter : (cpu : ℕ) (xs : List Mark) → AllByRecursion MarkFits xs → AllByRecursion MarkFits (filter (is_mark_of cpu) xs)
fit_filter cpu [] fit = tt
fit_filter cpu (x ∷ xs) fit = fit_if (is_mark_of cpu x) x (filter (is_mark_of cpu) xs) fit.0 (fit_filter cpu xs fit.1)

fit_cpus : (marks : List Mark) (rows : List CpuRow) → AllByRecursion MarkFits marks → AllByRecursion MarkFits (by_cpu marks rows)
fit_cpus marks [] fit = tt
fit_cpus marks (row ∷ rows) fit = fit_append (marks_of marks row) (by_cpu marks rows) (fit_filter row.cpu.0 marks fit) (fit_cpus marks rows fit)

-- the whole text

-- what two runs with one text have in common
pub record Common (entries others : List Entry) (marks calls : List Mark) (s t : State) : Type 0 where
  pub same_entries : entries ≡ others
  pub same_calls : map told (by_cpu marks (cpus_in_order s)) ≡ map told (by_cpu calls (cpus_in_order t))
  pub same_state : state_part s ≡ state_part t

part_nested : (head : List ℕ) (n : ℕ) (lines r : List ℕ) → (head ++ (spaced n ++ (codes "\n" ++ lines))) ++ r ≡ head ++ (spaced n ++ (10 ∷ (lines ++ r)))
part_nested head n lines r =
    append_assoc head (spaced n ++ (codes "\n" ++ lines)) r ∙ ap (λ (l : List ℕ). head ++ l) (append_assoc (spaced n) (codes "\n" ++ lines) r)

pub texts : (entries others : List Entry) (marks calls : List Mark) (s t : State) → RunFits entries marks → RunFits others calls
    → history_text entries marks s ≡ history_text others calls t → Common entries others marks calls s t
texts entries others marks calls s t fit fits same =
    let lines : List Entry → List ℕ = λ list. flat_map entry_line (enumerate_from 1 list) in
    let rest : List ℕ = calls_part marks s ++ state_part s in
    let other : List ℕ = calls_part calls t ++ state_part t in
    let front = number (length entries) (length others) (10 ∷ (lines entries ++ rest)) (10 ∷ (lines others ++ other)) fit.entry_count fits.entry_count
    (line_breaks []) (line_breaks [])
    (ap (drop 7) (sym (part_nested (codes "history") (length entries) (lines entries) rest) ∙ same
    ∙ part_nested (codes "history") (length others) (lines others) other)) in
    let few : 1 + length entries ≤ 2 ^ 64 = (let low : length entries < 2 ^ 64 = fit.entry_count in omega (arith, low)) in
    let also : 1 + length others ≤ 2 ^ 64 = (let low : length others < 2 ^ 64 = fits.entry_count in omega (arith, low)) in
    let history = entries_told 1 entries others rest other few also fit.entries_fit fits.entries_fit refl refl (ap (drop 1) front.1) in
    let rows : List CpuRow = cpus_in_order s in
    let row_others : List CpuRow = cpus_in_order t in
    let second = number (length marks) (length calls) (10 ∷ (flat_map (cpu_lines marks) rows ++ state_part s)) (10 ∷ (flat_map (cpu_lines calls) row_others ++ state_part t))
    fit.mark_count fits.mark_count (line_breaks []) (line_breaks [])
    (ap (drop 5) (sym (part_nested (codes "calls") (length marks) (flat_map (cpu_lines marks) rows) (state_part s)) ∙ history.1
    ∙ part_nested (codes "calls") (length calls) (flat_map (cpu_lines calls) row_others) (state_part t))) in
    let made = calls_told (by_cpu marks rows) (by_cpu calls row_others) (state_part s) (state_part t)
    (fit_cpus marks rows fit.marks_fit) (fit_cpus calls row_others fits.marks_fit) refl refl
    (ap (λ (l : List ℕ). l ++ state_part s) (sym (cpu_by_cpu marks rows)) ∙ ap (drop 1) second.1
    ∙ ap (λ (l : List ℕ). l ++ state_part t) (cpu_by_cpu calls row_others)) in
    record { same_entries = history.0; same_calls = made.0; same_state = made.1 }
