-- What the words of the slots tell is what the rows say.
use Rattle.std.proofs.Common.{◌≡◌, ◌<◌, ◌≤◌, ◌+◌, ◌-◌, ◌∙◌, ◌==◌, ◌&&◌, not, ℕ, suc, Bool, true, false, List, [], Option, Some, None}
use Rattle.std.proofs.Common.{refl, sym, ap, subst, arith, inl, inr, find, get_or, is_some, length, position, slice_get, IsTrue, if◌then◌else◌}
use Rattle.std.specs.Prelude.{slice_index_or}
use Rattle.std.specs.List.{list_all, list_any, position_or_len, range_with_len}
use Rattle.std.specs.Option.{option_map, option_map_or}
use Rattle.std.proofs.lemmas.Bool.{and_from, and_parts, both_ways, cases_lt, eq-eqb, eqb-true, le-leb, le-ltb, leb-true, lt-ltb}
use Rattle.std.proofs.lemmas.List.FromFn.{get_or-range_with_len, length-range_with_len}
use Rattle.std.proofs.lemmas.List.Folds.{find_at, list_any_at}
use Rattle.std.proofs.lemmas.List.Sums.{fails_before_first, passes_at_first, position_or_len_is, prefix_len-le-length}
use Rattle.std.proofs.lemmas.Option.{slice_get-get_or, slice_get_past}
use Rattle.gh_base.specs.CapWord.{filled_state, kind_of, mark_number, master_of, rights_of, set_at_of, state_number, state_of}
use Rattle.gh_base.specs.Kind.{kind_number, kind_numbered}
use Rattle.gh_base.specs.declared.cap_word.CapState.{CapState}
use Rattle.gh_base.specs.declared.cap_word.CapWord.{CapWord}
use Rattle.gh_base.specs.declared.ids.Serial.{Serial}
use Rattle.gh_cspace.specs.Cspace.{IsSlot, is_empty, is_free, is_valid, never_set, word_at}
use Rattle.gh_invariant.proofs.Counting.{find_here, found_all, found_passes}
use Rattle.gh_invariant.proofs.SlotsFit.{SettingParts, SlotParts, setting_parts, slot_parts}
use Rattle.gh_invariant.specs.Lives.{setting_fits, slot_fits}
use Rattle.gh_invariant.specs.Valid.{IsValid, IsValidTo}
use Rattle.gh_model.specs.CapabilityCalls.{is_empty_slot, is_finished, is_left, is_taken_of, least_free, names, rises}
use Rattle.gh_model.specs.Rows.{fills, tells_setting}
use Rattle.gh_model.specs.Word.{is_slot, setting, setting_number, word_at as word_of}
use Rattle.gh_model.specs.declared.rows.CapabilityRow.{CapabilityRow}
use Rattle.gh_model.specs.declared.rows.SetAtRow.{SetAtRow}
use Rattle.gh_model.specs.declared.rows.TakenSlot.{TakenSlot}
use Rattle.gh_model.specs.declared.state.State.{State}
use Rattle.gh_model.specs.declared.word.Word.{Word}
use Rattle.gh_objects.specs.declared.header.Header.{Header}
use Rattle.gh_parts.specs.SlotReads.{finished_in, free_slot_in, has_copy, held, held_by, held_in_some, is_copy, is_copy_at, is_taken_in}
use Rattle.gh_parts.specs.SlotReads.{nothing_held, row_of_kind, row_of_word}
use Rattle.gh_parts.specs.Slots.{is_home, name_in, no_serial, word_in}
use Rattle.gh_parts.specs.Stands.{ShowsFilled, ShowsSlot, Stands}
use Rattle.gh_parts.specs.declared.parts.Parts.{Parts}
use Rattle.gh_parts.specs.declared.slots.Slots.{Slots}
use Rattle.gh_parts.proofs.FilledSlots.{full, grants}
use Rattle.gh_parts.proofs.FoundAlone.{all_alike, any_found, any_some, found_alone, same_truth}
use Rattle.gh_parts.proofs.Living.{There, numbered, there}
use Rattle.gh_parts.proofs.SlotNumbers.{slot_within, word_is}
use Rattle.gh_parts.proofs.WordLemmas.{Fit, empty_state, entry_packed, filled_word_state, kind_fits, kind_packed, mark_fits, master_packed}
use Rattle.gh_parts.proofs.WordLemmas.{rights_packed, rights_small}

marked : (master : Bool) → (mark_number master == 1) ≡ master
marked true = refl
marked false = refl

-- the fields of a filled slot's word
module _ (headers : List (Option Header)) (word : CapWord) (name : Serial) (row : CapabilityRow) (number : ℕ)
    (shown : ShowsFilled headers word name row number)
    (fit : Fit (kind_number row.kind) (mark_number row.master) shown.object row.rights.0 number) where
  state_is : state_of word.0 ≡ filled_state row.valid
  state_is = ap state_of shown.bits ∙ filled_word_state row.valid row.kind row.master shown.object row.rights.0 number fit

  kind_is : kind_of word.0 ≡ Some row.kind
  kind_is =
      ap kind_of shown.bits
      ∙ ap kind_numbered (kind_packed (state_number (filled_state row.valid)) _ _ _ _ _ fit)
      ∙ numbered row.kind

  master_is : master_of word.0 ≡ row.master
  master_is =
      ap master_of shown.bits
      ∙ ap (λ (n : ℕ). n == 1) (master_packed (state_number (filled_state row.valid)) _ _ _ _ _ fit)
      ∙ marked row.master

  rights_are : rights_of word.0 ≡ row.rights.0
  rights_are = ap rights_of shown.bits ∙ rights_packed (state_number (filled_state row.valid)) _ _ _ _ _ fit

  number_is : set_at_of word.0 ≡ number
  number_is = ap set_at_of shown.bits ∙ entry_packed (state_number (filled_state row.valid)) _ _ _ _ _ fit

  valid_is : is_valid (state_of word.0) ≡ row.valid
  valid_is = ap is_valid state_is ∙ grants row.valid

  free_not : is_free word ≡ false
  free_not = ap is_empty state_is ∙ full row.valid

  row_told : (cspace : Serial) (slot : ℕ) → row.cspace ≡ cspace → row.slot ≡ slot
      → row_of_kind cspace slot word name row.kind ≡ row
  row_told cspace slot home place =
      ap (λ (c : Serial). record (row_of_kind cspace slot word name row.kind) { cspace = c }) (sym home)
      ∙ ap (λ (n : ℕ). record (row_of_kind row.cspace slot word name row.kind) { slot = n }) (sym place)
      ∙ ap (λ (n : Serial). record (row_of_kind row.cspace row.slot word name row.kind) { serial = n }) shown.named
      ∙ ap (λ (n : ℕ). record (row_of_kind row.cspace row.slot word row.serial row.kind) { rights = record { 0 = n } }) rights_are
      ∙ ap (λ (b : Bool). record (row_of_kind row.cspace row.slot word row.serial row.kind) { rights = row.rights; master = b }) master_is
      ∙ ap (λ (b : Bool). record row { valid = b }) valid_is

  held_filled : (cspace : Serial) (slot : ℕ) → row.cspace ≡ cspace → row.slot ≡ slot
      → held_by cspace slot word name ≡ record { row = Some row; set_at = number }
  held_filled cspace slot home place =
      let its : row_of_word cspace slot word name ≡ Some row =
      ap (λ (b : Bool). if b then None else option_map (row_of_kind cspace slot word name) (kind_of word.0)) free_not
      ∙ ap (option_map (row_of_kind cspace slot word name)) kind_is
      ∙ ap Some (row_told cspace slot home place) in
      ap (λ (r : Option CapabilityRow). record { row = r; set_at = set_at_of word.0 }) its
      ∙ ap (λ (n : ℕ). record { row = Some row; set_at = n }) number_is

  copy_filled : (object : Serial) → is_copy object word name ≡ is_left object row
  copy_filled object =
      ap (λ (b : Bool). b && not (master_of word.0) && (name.0 == object.0)) valid_is
      ∙ ap (λ (b : Bool). row.valid && not b && (name.0 == object.0)) master_is
      ∙ ap (λ (n : Serial). row.valid && not row.master && (n.0 == object.0)) shown.named

-- an empty slot's word
module _ (word : CapWord) (number : ℕ) (small : number < 4294967296) (shown : word.0 ≡ number) where
  free_is : is_free word ≡ true
  free_is = ap is_empty (ap state_of shown ∙ empty_state number small)

  held_empty : (cspace : Serial) (slot : ℕ) (name : Serial)
      → held_by cspace slot word name ≡ record { row = None; set_at = number }
  held_empty cspace slot name =
      let rest : set_at_of word.0 ≡ number = ap set_at_of shown ∙ omega (arith, small) in
      ap (λ (b : Bool). record {
        row = if b then None else option_map (row_of_kind cspace slot word name) (kind_of word.0);
        set_at = set_at_of word.0;
      }) free_is
      ∙ ap (λ (n : ℕ). record { row = None; set_at = n }) rest

  copy_empty : (object name : Serial) → is_copy object word name ≡ false
  copy_empty object name =
      ap (λ (state : CapState). is_valid state && not (master_of word.0) && (name.0 == object.0))
      (ap state_of shown ∙ empty_state number small)

number_by : (last : ℕ) (s : State) (cspace slot : ℕ) → IsValidTo last s → (found : Option SetAtRow)
    → find (tells_setting cspace slot) s.set_at ≡ found → setting_number found ≤ last
number_by last s cspace slot valid None is = omega arith
number_by last s cspace slot valid (Some row) is =
    let parts : SettingParts last s.objects row =
    setting_parts last s.objects row
    (found_all (tells_setting cspace slot) (setting_fits last s.objects) s.set_at row valid.slots.set is) in
    leb-true row.number last parts.within

-- a row that is found in a slot
record Filling (s : State) (cspace slot : ℕ) (row : CapabilityRow) : Type 0 where
  pub home : row.cspace.0 ≡ cspace
  pub place : row.slot ≡ slot
  pub fits : SlotParts s.next_serial s.objects row

filling : (s : State) → IsValid s → (cspace slot : ℕ) (row : CapabilityRow) → find (fills cspace slot) s.caps ≡ Some row
    → Filling s cspace slot row
filling s valid cspace slot row is =
    let both : ((row.cspace.0 == cspace) ≡ true) × ((row.slot == slot) ≡ true) =
    and_parts _ _ (found_passes (fills cspace slot) s.caps row is) in
    record {
      home = eqb-true row.cspace.0 cspace both.0;
      place = eqb-true row.slot slot both.1;
      fits =
          slot_parts s.next_serial s.objects row
          (found_all (fills cspace slot) (slot_fits s.next_serial s.objects) s.caps row valid.slots.filled is);
    }

-- the object's valid capability without master mark in what is found
abbrev left_in : Serial → Option CapabilityRow → Bool
left_in object None = false
left_in object (Some row) = is_left object row

-- the first number of a range that passes
found_first : (p : ℕ → Bool) (start more : ℕ) → p start ≡ true → find p (range_with_len start (suc more)) ≡ Some start
found_first p start more passes = find_here p start (range_with_len (start + 1) more) passes

-- a number of a range is found where its word is the first that passes
module _ {W : Type 0} (p : ℕ → Bool) (q : W → Bool) (d : W) (words : List W) (start : ℕ)
    (same : (k : ℕ) → k < length words → p (start + k) ≡ q (get_or words k d)) where
  abbrev numbers : List ℕ
  numbers = range_with_len start (length words)

  abbrev at : ℕ
  at = position_or_len q words

  within_words : position_or_len q words ≤ length words
  within_words = prefix_len-le-length _ words

  number_at : (k : ℕ) → k < length words → p (get_or (range_with_len start (length words)) k 0) ≡ q (get_or words k d)
  number_at k within = ap p (get_or-range_with_len start (length words) k 0 within) ∙ same k within

  same_place : position_or_len p (range_with_len start (length words)) ≡ position_or_len q words
  same_place =
      let sized : length (range_with_len start (length words)) ≡ length words = length-range_with_len start (length words) in
      position_or_len_is p (range_with_len start (length words)) (position_or_len q words) 0 (omega (arith, sized, within_words))
      (λ k before. number_at k (omega (arith, before, within_words)) ∙ fails_before_first q words k d before)
      (λ within. number_at (position_or_len q words) (omega (arith, within, sized)) ∙ passes_at_first q words d (omega (arith, within, sized)))

  found_placed : find p (range_with_len start (length words)) ≡ option_map (λ (place : ℕ). place + start) (position q words)
  found_placed =
      let sized : length (range_with_len start (length words)) ≡ length words = length-range_with_len start (length words) in
      find_at p (range_with_len start (length words))
      ∙ ap (slice_get (range_with_len start (length words))) same_place
      ∙ elim (cases_lt (position_or_len q words) (length words)) [
        | inl below ↦
            slice_get-get_or (range_with_len start (length words)) (position_or_len q words) 0 (omega (arith, below, sized))
            ∙ ap Some (get_or-range_with_len start (length words) (position_or_len q words) 0 below ∙ omega arith)
            ∙ ap (λ (b : Bool). option_map (λ (place : ℕ). place + start) (if b then Some (position_or_len q words) else None))
            (sym (lt-ltb (position_or_len q words) (length words) below))
        | inr past ↦
            slice_get_past (range_with_len start (length words)) (position_or_len q words) (omega (arith, past, sized))
            ∙ ap (λ (b : Bool). option_map (λ (place : ℕ). place + start) (if b then Some (position_or_len q words) else None))
            (sym (le-ltb (position_or_len q words) (length words) past))
      ]

-- a number of a range that passes
any_placed : (p : ℕ → Bool) (n : ℕ) → IsSlot n → p n ≡ true → list_any p (range_with_len 1 127) ≡ true
any_placed p n slot passes =
    let sized : length (range_with_len 1 127) ≡ 127 = length-range_with_len 1 127 in
    let at : get_or (range_with_len 1 127) (n - 1) 0 ≡ n =
    get_or-range_with_len 1 127 (n - 1) 0 (omega (arith, slot.least, slot.greatest)) ∙ omega (arith, slot.least) in
    list_any_at p (range_with_len 1 127) (n - 1) 0 (omega (arith, slot.least, slot.greatest, sized)) (ap p at ∙ passes)

all_slots : IsTrue (list_all is_slot (range_with_len 1 127))
all_slots = refl

slot_in : (k : ℕ) → k < 127 → IsTrue (is_slot (1 + k))
slot_in k within = and_from _ _ (le-leb 1 (1 + k) (omega arith)) (le-leb (1 + k) 127 (omega (arith, within)))

module _ (parts : Parts) (s : State) (stand : Stands parts s) (valid : IsValid s) (small : s.entries < 4294967296) where
  abbrev headers : List (Option Header)
  headers = parts.table.headers

  abbrev all : List Slots
  all = parts.journal.slots

  number_small : (cspace slot : ℕ) → setting s cspace slot < 4294967296
  number_small cspace slot =
      omega (arith, small, number_by s.entries s cspace slot valid (find (tells_setting cspace slot) s.set_at) refl)

  fit : (cspace slot : ℕ) (row : CapabilityRow) → find (fills cspace slot) s.caps ≡ Some row
      → (shown : ShowsFilled headers (word_in all cspace slot) (name_in all cspace slot) row (setting s cspace slot))
      → Fit (kind_number row.kind) (mark_number row.master) shown.object row.rights.0 (setting s cspace slot)
  fit cspace slot row is shown = record {
    kind_fits = kind_fits row.kind;
    master_fits = mark_fits row.master;
    object_fits = shown.within;
    rights_fit = rights_small row.kind row.rights.0 (filling s valid cspace slot row is).fits.rights;
    entry_fits = number_small cspace slot;
  }

  -- one slot
  module _ (cspace : Serial) (slot : ℕ) where
    held_by_row : (found : Option CapabilityRow) → find (fills cspace.0 slot) s.caps ≡ found
        → ShowsSlot headers (word_in all cspace.0 slot) (name_in all cspace.0 slot) found (setting s cspace.0 slot)
        → held_by cspace slot (word_in all cspace.0 slot) (name_in all cspace.0 slot)
        ≡ record { row = found; set_at = setting s cspace.0 slot }
    held_by_row None is shown =
        held_empty (word_in all cspace.0 slot) (setting s cspace.0 slot) (number_small cspace.0 slot) shown cspace slot (name_in all cspace.0 slot)
    held_by_row (Some row) is shown =
        let its : Filling s cspace.0 slot row = filling s valid cspace.0 slot row is in
        held_filled headers (word_in all cspace.0 slot) (name_in all cspace.0 slot) row (setting s cspace.0 slot) shown (fit cspace.0 slot row is shown)
        cspace slot (ap (λ (n : ℕ). record { 0 = n }) its.home) its.place

    same_held : IsTrue (is_slot slot) → (home : Option Slots)
        → held_in_some cspace slot home
        ≡ held_by cspace slot (word_at (option_map_or (λ (slots : Slots). slots.words) home []) slot)
        (slice_index_or (option_map_or (λ (slots : Slots). slots.names) home []) (slot - 1) no_serial)
    same_held is None =
        ap (λ (word : CapWord). held_by cspace slot word (slice_index_or [] (slot - 1) no_serial))
        (sym (word_is [] slot (slot_within slot is)))
    same_held is (Some slots) = refl

    held_told : IsTrue (is_slot slot)
        → held_in_some cspace slot (find (is_home cspace.0) all)
        ≡ record { row = find (fills cspace.0 slot) s.caps; set_at = setting s cspace.0 slot }
    held_told is =
        same_held is (find (is_home cspace.0) all)
        ∙ held_by_row (find (fills cspace.0 slot) s.caps) refl (stand.slots.words cspace.0 slot is)

    word_by : (named : Bool) → is_slot slot ≡ named
        → (if named then held_in_some cspace slot (find (is_home cspace.0) all) else nothing_held)
        ≡ (let word : Word = if named then record { row = find (fills cspace.0 slot) s.caps; set_at = setting s cspace.0 slot }
        else record { row = None; set_at = 0 } in word)
    word_by true is = held_told is
    word_by false is = refl

    -- what a slot holds
    pub word_told : held parts.journal.slots cspace slot ≡ word_of s cspace.0 slot
    word_told = word_by (is_slot slot) refl

    row_by : (named : Bool) → is_slot slot ≡ named → (found : Option CapabilityRow)
        → find (fills cspace.0 slot) s.caps ≡ found
        → (let word : Word = if named then record { row = found; set_at = setting s cspace.0 slot }
        else record { row = None; set_at = 0 } in word).row ≡ found
    row_by true is found found_is = refl
    row_by false is None found_is = refl
    row_by false is (Some row) found_is =
        let its : Filling s cspace.0 slot row = filling s valid cspace.0 slot row found_is in
        absurd (both_ways (is_slot slot) is (subst (λ (n : ℕ). IsTrue (is_slot n)) its.place its.fits.slot))

    row_at : (held parts.journal.slots cspace slot).row ≡ find (fills cspace.0 slot) s.caps
    row_at =
        ap (λ (word : Word). word.row) word_told
        ∙ row_by (is_slot slot) refl (find (fills cspace.0 slot) s.caps) refl

  -- whether a slot is free
  empty_by : (cspace slot : ℕ) (found : Option CapabilityRow) → find (fills cspace slot) s.caps ≡ found
      → ShowsSlot headers (word_in all cspace slot) (name_in all cspace slot) found (setting s cspace slot)
      → not (is_some found) ≡ is_free (word_in all cspace slot)
  empty_by cspace slot None is shown =
      sym (free_is (word_in all cspace slot) (setting s cspace slot) (number_small cspace slot) shown)
  empty_by cspace slot (Some row) is shown =
      sym (free_not headers (word_in all cspace slot) (name_in all cspace slot) row (setting s cspace slot) shown (fit cspace slot row is shown))

  empty_told : (cspace slot : ℕ) → IsTrue (is_slot slot)
      → is_empty_slot s.caps cspace slot ≡ is_free (word_in all cspace slot)
  empty_told cspace slot is =
      ap not (any_some (fills cspace slot) s.caps)
      ∙ empty_by cspace slot (find (fills cspace slot) s.caps) refl (stand.slots.words cspace slot is)

  free_by : (cspace : ℕ) (home : Option Slots) → find (is_home cspace) all ≡ home
      → free_slot_in home ≡ least_free s.caps cspace
  free_by cspace None none =
      sym (found_first (is_empty_slot s.caps cspace) 1 126
      (empty_told cspace 1 refl
      ∙ ap (λ (o : Option Slots). is_free (word_at (option_map_or (λ (slots : Slots). slots.words) o []) 1)) none))
  free_by cspace (Some slots) is =
      let sized : length slots.words ≡ 127 = (stand.slots.sized cspace slots is).words in
      let same : (k : ℕ) → k < length slots.words → is_empty_slot s.caps cspace (1 + k) ≡ is_free (get_or slots.words k never_set) =
      λ k within.
      empty_told cspace (1 + k) (slot_in k (omega (arith, within, sized)))
      ∙ ap (λ (o : Option Slots). is_free (word_at (option_map_or (λ (one : Slots). one.words) o []) (1 + k))) is
      ∙ ap is_free (word_is slots.words (1 + k) (slot_within (1 + k) (slot_in k (omega (arith, within, sized)))))
      ∙ ap (λ (n : ℕ). is_free (get_or slots.words n never_set)) (omega arith) in
      sym (ap (λ (n : ℕ). find (is_empty_slot s.caps cspace) (range_with_len 1 n)) (sym sized)
      ∙ found_placed (is_empty_slot s.caps cspace) is_free never_set slots.words 1 same)

  -- the least free slot
  pub free_told : (cspace : ℕ) → free_slot_in (find (is_home cspace) parts.journal.slots) ≡ least_free s.caps cspace
  free_told cspace = free_by cspace (find (is_home cspace) all) refl

  -- copies of an object
  module _ (object : Serial) where
    copy_by : (cspace slot : ℕ) (found : Option CapabilityRow) → find (fills cspace slot) s.caps ≡ found
        → ShowsSlot headers (word_in all cspace slot) (name_in all cspace slot) found (setting s cspace slot)
        → is_copy object (word_in all cspace slot) (name_in all cspace slot) ≡ left_in object found
    copy_by cspace slot None is shown =
        copy_empty (word_in all cspace slot) (setting s cspace slot) (number_small cspace slot) shown object (name_in all cspace slot)
    copy_by cspace slot (Some row) is shown =
        copy_filled headers (word_in all cspace slot) (name_in all cspace slot) row (setting s cspace slot) shown (fit cspace slot row is shown) object

    copy_told : (cspace slot : ℕ) → IsTrue (is_slot slot) → (slots : Slots) → find (is_home cspace) all ≡ Some slots
        → is_copy_at object slots slot ≡ left_in object (find (fills cspace slot) s.caps)
    copy_told cspace slot is slots home =
        ap (λ (o : Option Slots). is_copy object (word_at (option_map_or (λ (one : Slots). one.words) o []) slot)
        (slice_index_or (option_map_or (λ (one : Slots). one.names) o []) (slot - 1) no_serial)) (sym home)
        ∙ copy_by cspace slot (find (fills cspace slot) s.caps) refl (stand.slots.words cspace slot is)

    left_by : (cspace slot : ℕ) (found : Option CapabilityRow) → find (fills cspace slot) s.caps ≡ found
        → left_in object found ≡ true → list_any (is_left object) s.caps ≡ true
    left_by cspace slot None is left = absurd (both_ways false refl left)
    left_by cspace slot (Some row) is left = any_found (is_left object) (fills cspace slot) s.caps row is left

    left_from : list_any (has_copy object) all ≡ true → list_any (is_left object) s.caps ≡ true
    left_from has =
        let home : There (find (has_copy object) all) = there (find (has_copy object) all) (sym (any_some (has_copy object) all) ∙ has) in
        let some : has_copy object home.it ≡ true = found_passes (has_copy object) all home.it home.is in
        let slot : There (find (is_copy_at object home.it) (range_with_len 1 127)) =
        there (find (is_copy_at object home.it) (range_with_len 1 127))
        (sym (any_some (is_copy_at object home.it) (range_with_len 1 127)) ∙ some) in
        let is : IsTrue (is_slot slot.it) =
        found_all (is_copy_at object home.it) is_slot (range_with_len 1 127) slot.it all_slots slot.is in
        let alone : find (is_home home.it.cspace.0) all ≡ Some home.it =
        found_alone (has_copy object) (is_home home.it.cspace.0) home.it (eq-eqb home.it.cspace.0 home.it.cspace.0 refl) all home.is
        (stand.slots.once home.it.cspace.0) in
        left_by home.it.cspace.0 slot.it (find (fills home.it.cspace.0 slot.it) s.caps) refl
        (sym (copy_told home.it.cspace.0 slot.it is home.it alone)
        ∙ found_passes (is_copy_at object home.it) (range_with_len 1 127) slot.it slot.is)

    left_to : list_any (is_left object) s.caps ≡ true → list_any (has_copy object) all ≡ true
    left_to left =
        let row : There (find (is_left object) s.caps) = there (find (is_left object) s.caps) (sym (any_some (is_left object) s.caps) ∙ left) in
        let fits : SlotParts s.next_serial s.objects row.it =
        slot_parts s.next_serial s.objects row.it
        (found_all (is_left object) (slot_fits s.next_serial s.objects) s.caps row.it valid.slots.filled row.is) in
        let fills_it : find (fills row.it.cspace.0 row.it.slot) s.caps ≡ Some row.it =
        found_alone (is_left object) (fills row.it.cspace.0 row.it.slot) row.it
        (and_from _ _ (eq-eqb row.it.cspace.0 row.it.cspace.0 refl) (eq-eqb row.it.slot row.it.slot refl)) s.caps row.is
        (valid.slots.once row.it.cspace.0 row.it.slot) in
        let home : There (find (is_home row.it.cspace.0) all) =
        there (find (is_home row.it.cspace.0) all) (stand.slots.homes row.it.cspace.0 ∙ fits.home) in
        let copy : is_copy_at object home.it row.it.slot ≡ true =
        copy_told row.it.cspace.0 row.it.slot fits.slot home.it home.is
        ∙ ap (left_in object) fills_it
        ∙ found_passes (is_left object) s.caps row.it row.is in
        any_found (has_copy object) (is_home row.it.cspace.0) all home.it home.is
        (any_placed (is_copy_at object home.it) row.it.slot (slot_within row.it.slot fits.slot) copy)

    -- whether a revoke of its capabilities has taken all of them
    pub finished_told : finished_in parts.journal.slots s.taken object ≡ is_finished s object
    finished_told =
        ap (λ (b : Bool). not b && list_all (is_taken_in all object) s.taken && rises s.taken)
        (same_truth (list_any (has_copy object) all) (list_any (is_left object) s.caps) left_from left_to)
        ∙ ap (λ (b : Bool). not (list_any (is_left object) s.caps) && b && rises s.taken)
        (all_alike (is_taken_in all object) (is_taken_of s object) s.taken
        (λ (taken : TakenSlot). ap (names object) (row_at taken.cspace taken.slot)))
