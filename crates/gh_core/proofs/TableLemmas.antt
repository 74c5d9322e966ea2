-- What a read of a table finds: the last value that was written there, or else what it began with.
use Rattle.std.proofs.Common.{◌≡◌, ◌≢◌, ◌==◌, ◌∙◌, ◌<◌, ℕ, zero, suc, Bool, true, false, List, [], ◌∷◌, ◌++◌, inl, inr, refl, sym, subst, ap, Option, Some, None, arith, fold, length, slice_get, slice_set, if◌then◌else◌}
use Rattle.std.proofs.lemmas.Bool.Decides.{eqb_tells}
use Rattle.std.proofs.Math.Path.{fun_ext}
use Rattle.std.specs.List.{list_all}
use Rattle.std.specs.Option.{option_map_or, unwrap_or}
use Rattle.gh_base.specs.declared.limits.TheConstants.{CPUS, OBJECT_INDICES}
use Rattle.gh_base.specs.declared.cap_word.CapWord.{CapWord}
use Rattle.gh_events.specs.Config.{Config, Cpu, put}
use Rattle.gh_core.specs.Running.{cpu_of, cpus, has_index, index_in, no_number, stands_for, with_cpu}
use Rattle.gh_events.specs.Start.{new_cpu}
use Rattle.gh_core.proofs.CallTests.{below, both}
use Rattle.gh_core.specs.Tables.{last_mark, last_number, last_word, later_mark, later_number, later_word, marks, numbers, options, put_mark, put_number, put_option, put_slot, words}
use Rattle.gh_core.specs.declared.config.Running.{Running}
use Rattle.gh_core.specs.declared.cpu.Seat.{Seat}
use Rattle.gh_core.specs.declared.table.Marked.{Marked}
use Rattle.gh_core.specs.declared.table.SlotWritten.{SlotWritten}
use Rattle.gh_core.specs.declared.table.Written.{Written}

chosen : {V : Type 0} (here : Bool) (value before : V) (last : Option V) (first : V) → before ≡ unwrap_or last first
    → (if here then value else before) ≡ unwrap_or (if here then Some value else last) first
chosen true value before last first same = refl
chosen false value before last first same = same

read_number : (written : List Written) (values : ℕ → ℕ) (last : Option ℕ) (first at : ℕ) → values at ≡ unwrap_or last first
    → fold put_number values written at ≡ unwrap_or (fold (later_number at) last written) first
read_number [] values last first at same = same
read_number (w ∷ written) values last first at same =
    read_number written (put_number values w) (later_number at last w) first at (chosen (at == w.at) w.value (values at) last first same)

-- a number of a table
pub number_read : (first : ℕ → ℕ) (written : List Written) (at : ℕ) → numbers first written at ≡ unwrap_or (last_number at written) (first at)
number_read first written at = read_number written first None (first at) at refl

chosen_option : {V : Type 0} (here : Bool) (value : V) (before last : Option V) → before ≡ last
    → (if here then Some value else before) ≡ (if here then Some value else last)
chosen_option here value before last same = ap (λ (o : Option _). if here then Some value else o) same

read_option : (written : List Written) (values : ℕ → Option ℕ) (last : Option ℕ) (at : ℕ) → values at ≡ last
    → fold put_option values written at ≡ fold (later_number at) last written
read_option [] values last at same = same
read_option (w ∷ written) values last at same =
    read_option written (put_option values w) (later_number at last w) at (chosen_option (at == w.at) w.value (values at) last same)

-- a number of a table that has some
pub option_read : (written : List Written) (at : ℕ) → options written at ≡ last_number at written
option_read written at = read_option written (λ _. None) None at refl

read_mark : (marked : List Marked) (values : ℕ → Bool) (last : Option Bool) (first : Bool) (at : ℕ) → values at ≡ unwrap_or last first
    → fold put_mark values marked at ≡ unwrap_or (fold (later_mark at) last marked) first
read_mark [] values last first at same = same
read_mark (w ∷ marked) values last first at same =
    read_mark marked (put_mark values w) (later_mark at last w) first at (chosen (at == w.at) w.dead (values at) last first same)

-- a mark
pub mark_read : (first : ℕ → Bool) (marked : List Marked) (at : ℕ) → marks first marked at ≡ unwrap_or (last_mark at marked) (first at)
mark_read first marked at = read_mark marked first None (first at) at refl

chosen_inner : (there : Bool) (word before : CapWord) (last : Option CapWord) (first : CapWord) → before ≡ unwrap_or last first
    → (if there then word else before) ≡ unwrap_or (if there then Some word else last) first
chosen_inner true word before last first same = refl
chosen_inner false word before last first same = same

put_word_read : (words : ℕ → ℕ → CapWord) (w : SlotWritten) (last : Option CapWord) (first : CapWord) (space slot : ℕ)
    → words space slot ≡ unwrap_or last first
    → put_slot words w space slot ≡ unwrap_or (later_word space slot last w) first
put_word_read first_words w last first space slot same = elim (eqb_tells space w.space) as (λ _. put_slot first_words w space slot ≡ unwrap_or (later_word space slot last w) first) [
  | inl here ↦ rw here.0 (chosen_inner (slot == w.slot) w.word (first_words w.space slot) last first (ap (λ n. first_words n slot) (sym here.1) ∙ same))
  | inr there ↦ rw there.0 same
]

read_word : (written : List SlotWritten) (values : ℕ → ℕ → CapWord) (last : Option CapWord) (first : CapWord) (space slot : ℕ)
    → values space slot ≡ unwrap_or last first
    → fold put_slot values written space slot ≡ unwrap_or (fold (later_word space slot) last written) first
read_word [] values last first space slot same = same
read_word (w ∷ written) values last first space slot same =
    read_word written (put_slot values w) (later_word space slot last w) first space slot (put_word_read values w last first space slot same)

-- a capability word
pub word_read : (first : ℕ → ℕ → CapWord) (written : List SlotWritten) (space slot : ℕ)
    → words first written space slot ≡ unwrap_or (last_word space slot written) (first space slot)
word_read first written space slot = read_word written first None (first space slot) space slot refl

-- one more that is written is put
pub put_last : {V W : Type 0} (change : V → W → V) (first : V) (written : List W) (w : W)
    → fold change first (written ++ w ∷ []) ≡ change (fold change first written) w
put_last change first [] w = refl
put_last change first (v ∷ written) w = put_last change (change first v) written w

set_here : {X : Type 0} (xs : List X) (at : ℕ) (x : X) → at < length xs → slice_get (slice_set xs at x) at ≡ Some x
set_here [] at x within = absurd (let never : ⊥ = omega (arith, within) in never)
set_here (y ∷ xs) zero x within = refl
set_here (y ∷ xs) (suc at) x within = set_here xs at x (omega (arith, within))

set_other : {X : Type 0} (xs : List X) (at n : ℕ) (x : X) → n ≢ at → slice_get (slice_set xs at x) n ≡ slice_get xs n
set_other [] at n x differs = refl
set_other (y ∷ xs) zero zero x differs = absurd (differs refl)
set_other (y ∷ xs) zero (suc n) x differs = refl
set_other (y ∷ xs) (suc at) zero x differs = refl
set_other (y ∷ xs) (suc at) (suc n) x differs = set_other xs at n x (λ same. differs (ap (λ (k : ℕ). suc k) same))

seat_puts : (seats : List Seat) (at : ℕ) (seat : Seat) (n : ℕ) → at < length seats
    → put (cpus seats) at (cpu_of seat) n ≡ cpus (slice_set seats at seat) n
seat_puts seats at seat n within = elim (eqb_tells n at) as (λ _. put (cpus seats) at (cpu_of seat) n ≡ cpus (slice_set seats at seat) n) [
  | inl same ↦ rw same.0 (ap (λ o. option_map_or cpu_of o new_cpu) (sym (ap (slice_get (slice_set seats at seat)) same.1 ∙ set_here seats at seat within)))
  | inr other ↦ rw other.0 (ap (λ o. option_map_or cpu_of o new_cpu) (sym (set_other seats at n seat other.1)))
]

-- a seat that is set is the CPU that is put
pub seat_put : (seats : List Seat) (at : ℕ) (seat : Seat) → at < length seats
    → put (cpus seats) at (cpu_of seat) ≡ cpus (slice_set seats at seat)
seat_put seats at seat within = fun_ext (λ n. seat_puts seats at seat n within)

module _ {V : Type 0} (read first : V) (last found : Option V) (is : read ≡ unwrap_or last first) (same : found ≡ last) where
  -- a read that finds what was written
  pub some_read : (value : V) → found ≡ Some value → value ≡ read
  some_read value some = sym (is ∙ ap (λ (o : Option V). unwrap_or o first) (sym same ∙ some))

  -- and one that finds what the table began with
  pub none_read : found ≡ None → first ≡ read
  none_read none = sym (is ∙ ap (λ (o : Option V). unwrap_or o first) (sym same ∙ none))

  -- a read or else that
  pub or_read : unwrap_or found first ≡ read
  or_read = sym (is ∙ ap (λ (o : Option V). unwrap_or o first) (sym same))

-- indices

within_chosen : (here : Bool) (value before : ℕ) → value < OBJECT_INDICES → before < OBJECT_INDICES
    → (if here then value else before) < OBJECT_INDICES
within_chosen true value before first second = first
within_chosen false value before first second = second

numbers_within : (written : List Written) (values : ℕ → ℕ) → list_all has_index written ≡ true
    → ((n : ℕ) → values n < OBJECT_INDICES) → (n : ℕ) → numbers values written n < OBJECT_INDICES
numbers_within [] values are within n = within n
numbers_within (w ∷ written) values are within n =
    let parts = both (has_index w) (list_all has_index written) are in
    numbers_within written (put values w.at w.value) parts.1
    (λ m. within_chosen (m == w.at) w.value (values m) (below w.value OBJECT_INDICES parts.0) (within m)) n

-- what was given as indices are indices
pub index_within : (first given : List Written) (serial : ℕ) → list_all has_index first ≡ true → list_all has_index given ≡ true
    → index_in first given serial < OBJECT_INDICES
index_within first given serial ones others =
    numbers_within given (numbers no_number first) others (λ n. numbers_within first no_number ones (λ m. omega arith) n) serial

-- a seat that is set in the tables
pub seat_stands : (running : Running) (at : ℕ) (seat : Seat) (seats : List Seat) → at < CPUS → length running.seats ≡ CPUS
    → seats ≡ slice_set running.seats at seat
    → stands_for (record running { seats = seats }) ≡ with_cpu (stands_for running) at (cpu_of seat)
seat_stands running at seat seats within nine set =
    ap with_cpus (ap cpus set ∙ sym (seat_put running.seats at seat (subst (λ (n : ℕ). at < n) (sym nine) within)))
  where
    with_cpus : (ℕ → Cpu) → Config
    with_cpus cs = record (stands_for running) { cpu = cs }

-- a word of these bits
abbrev pub the_word : ℕ → CapWord
the_word bits = record { 0 = bits }
