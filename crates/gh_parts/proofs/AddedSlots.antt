-- Slots stand once an object is entered; a new capability space has its own.
use Rattle.std.proofs.Common.{◌≡◌, ◌≢◌, ◌+◌, ◌-◌, ◌∙◌, ◌∷◌, ◌++◌, ◌==◌, ◌||◌, not, ℕ, Bool, true, false, List, [], Option, Some, None, refl, sym, ap, subst}
use Rattle.std.proofs.Common.{arith, inl, inr, find, is_some, replicate, set, IsTrue}
use Rattle.std.specs.Prelude.{◌≤◌, count_by, slice_index_or}
use Rattle.std.specs.Option.{option_map_or}
use Rattle.std.proofs.lemmas.Bool.{and_parts, cases_eq, eq-eqb, eqb-true, ne_eqb}
use Rattle.std.proofs.lemmas.List.{get_or-replicate, length-replicate}
use Rattle.gh_base.specs.Kind.{kind_number}
use Rattle.gh_base.specs.declared.cap_word.CapWord.{CapWord}
use Rattle.gh_base.specs.declared.ids.Serial.{Serial}
use Rattle.gh_base.specs.declared.kind.Kind.{Kind}
use Rattle.gh_base.specs.declared.kind.Kind.TheVariants as kind
use Rattle.gh_base.specs.declared.limits.TheConstants.{CSPACE_SLOTS}
use Rattle.gh_cspace.specs.Cspace.{IsSlot, never_set, word_at}
use Rattle.gh_invariant.proofs.Counting.{count_push, count_unfound, find_push_new, find_push_other, found_all, one_false}
use Rattle.gh_invariant.proofs.SlotsFit.{setting_parts, slot_parts}
use Rattle.gh_invariant.specs.Lives.{lives_as, setting_fits, slot_fits}
use Rattle.gh_model.specs.Boot.{is_of_kind}
use Rattle.gh_model.specs.QueueCalls.{one_if}
use Rattle.gh_model.specs.Rows.{fills, tells_setting}
use Rattle.gh_model.specs.Word.{is_slot, setting_number}
use Rattle.gh_model.specs.declared.rows.CapabilityRow.{CapabilityRow}
use Rattle.gh_model.specs.declared.rows.ObjectRow.{ObjectRow}
use Rattle.gh_model.specs.declared.rows.SetAtRow.{SetAtRow}
use Rattle.gh_model.specs.declared.state.State.{State}
use Rattle.gh_objects.specs.declared.header.Header.{Header}
use Rattle.gh_parts.specs.Index.{indexed}
use Rattle.gh_parts.specs.ObjectChanges.{with_space}
use Rattle.gh_parts.specs.Slots.{is_home, name_in, new_slots, no_serial, word_in}
use Rattle.gh_parts.specs.Stands.{HavePlaces, ShowsSlot, SlotsStand}
use Rattle.gh_parts.specs.declared.parts.Parts.{Parts}
use Rattle.gh_parts.specs.declared.slots.Slots.{Slots}
use Rattle.gh_parts.proofs.Entering.{Enters, at_there, found_here, lives_apart, lives_not, lives_there}
use Rattle.gh_parts.proofs.FoundRows.{none_found}
use Rattle.gh_parts.proofs.Options.{some_same}
use Rattle.gh_parts.proofs.SlotNumbers.{slot_within, word_is}

-- the slots of a capability space that is new
record Opens (serial : Serial) (k : Kind) (all : List Slots) : Type 0 where
  there : is_some (find (is_home serial.0) (with_space k serial all)) ≡ (kind_number k == kind_number kind.Cspace)
  sized : (slots : Slots) → find (is_home serial.0) (with_space k serial all) ≡ Some slots → HavePlaces slots
  empty : (slot : ℕ) → IsSlot slot → (word_in (with_space k serial all) serial.0 slot).0 ≡ 0

-- the words of what has none, and those of new slots, are 0
pub no_word : (slot : ℕ) → IsSlot slot → (word_at [] slot).0 ≡ 0
no_word slot is = ap (λ (word : CapWord). word.0) (word_is [] slot is)

new_word : (slot : ℕ) → IsSlot slot → (word_at (replicate CSPACE_SLOTS never_set) slot).0 ≡ 0
new_word slot is =
    ap (λ (word : CapWord). word.0)
    (word_is (replicate CSPACE_SLOTS never_set) slot is
    ∙ get_or-replicate CSPACE_SLOTS (slot - 1) never_set never_set (omega (arith, is.least, is.greatest)))

module _ (serial : Serial) (all : List Slots) (none : find (is_home serial.0) all ≡ None) where
  opens_none : (k : Kind) → with_space k serial all ≡ all → (kind_number k == kind_number kind.Cspace) ≡ false
      → Opens serial k all
  opens_none k same other = record {
    there = ap (λ (list : List Slots). is_some (find (is_home serial.0) list)) same
        ∙ ap is_some none ∙ sym other;
    sized = λ slots is.
        absurd (let found : find (is_home serial.0) all ≡ Some slots =
        ap (find (is_home serial.0)) (sym same) ∙ is in
        let never : ⊥ = cc in never);
    empty = λ slot is.
        ap (λ (list : List Slots). (word_in list serial.0 slot).0) same
        ∙ ap (λ (o : Option Slots). (word_at (option_map_or (λ (slots : Slots). slots.words) o []) slot).0) none
        ∙ no_word slot is;
  }

  found : find (is_home serial.0) (all ++ new_slots serial ∷ []) ≡ Some (new_slots serial)
  found =
      find_push_new (is_home serial.0) all (new_slots serial) none (eq-eqb serial.0 serial.0 refl)

  opens_new : Opens serial kind.Cspace all
  opens_new = record {
    there = ap is_some found;
    sized = λ slots is.
        subst HavePlaces (some_same (new_slots serial) slots (sym found ∙ is))
        (record {
          words = length-replicate {A = CapWord} CSPACE_SLOTS never_set;
          names = length-replicate {A = Serial} CSPACE_SLOTS no_serial;
        });
    empty = λ slot is.
        ap (λ (o : Option Slots). (word_at (option_map_or (λ (slots : Slots). slots.words) o []) slot).0) found
        ∙ new_word slot is;
  }

  opens : (k : Kind) → Opens serial k all
  opens kind.Cspace = opens_new
  opens kind.Partition = opens_none kind.Partition refl refl
  opens kind.Space = opens_none kind.Space refl refl
  opens kind.Extent = opens_none kind.Extent refl refl
  opens kind.Bell = opens_none kind.Bell refl refl
  opens kind.Queue = opens_none kind.Queue refl refl

-- the slots of other capability spaces stay
others_found : (k : Kind) (serial : Serial) (all : List Slots) (x : ℕ) → x ≢ serial.0
    → find (is_home x) (with_space k serial all) ≡ find (is_home x) all
others_found kind.Cspace serial all x apart =
    find_push_other (is_home x) all (new_slots serial) (ne_eqb serial.0 x (λ same. apart (sym same)))
others_found kind.Partition serial all x apart = refl
others_found kind.Space serial all x apart = refl
others_found kind.Extent serial all x apart = refl
others_found kind.Bell serial all x apart = refl
others_found kind.Queue serial all x apart = refl

-- and they are counted as before, where a new one has its slots once
counted : (k : Kind) (serial : Serial) (all : List Slots) (x : ℕ)
    → count_by (is_home x) (with_space k serial all) ≤ count_by (is_home x) all + one_if (serial.0 == x)
counted kind.Cspace serial all x = omega (arith, count_push (is_home x) all (new_slots serial))
counted kind.Partition serial all x = omega arith
counted kind.Space serial all x = omega arith
counted kind.Extent serial all x = omega arith
counted kind.Bell serial all x = omega arith
counted kind.Queue serial all x = omega arith

one_most : (b : Bool) → one_if b ≤ 1
one_most true = omega arith
one_most false = omega arith

module _ (owed : List Serial) (parts : Parts) (s : State) (row : ObjectRow) (home at : ℕ)
    (enters : Enters owed parts s row home at) where
  abbrev headers : List (Option Header)
  headers = parts.table.headers

  abbrev serial : ℕ
  serial = row.serial.0

  abbrev now : List (Option Header)
  now = set headers at
      (Some (record { kind = row.kind; partition = indexed home; serial = row.serial; stage = row.stage }))

  abbrev objects : List ObjectRow
  objects = s.objects ++ row ∷ []

  abbrev all : List Slots
  all = parts.journal.slots

  abbrev slots : List Slots
  slots = with_space row.kind row.serial all

  unopened_by : (found : Option Slots) → is_some found ≡ false → found ≡ None
  unopened_by None none = refl
  unopened_by (Some one) some = absurd (let never : ⊥ = cc in never)

  unopened : find (is_home serial) all ≡ None
  unopened =
      unopened_by (find (is_home serial) all)
      (enters.stand.slots.homes serial ∙ lives_not owed parts s row home at enters kind.Cspace)

  opened : Opens row.serial row.kind all
  opened = opens row.serial all unopened row.kind

  -- no capability is in a capability space that doesn't live, and no setting
  cap_fits : (c : CapabilityRow) → slot_fits s.next_serial s.objects c ≡ true → c.cspace.0 ≢ serial
  cap_fits c fits =
      lives_apart owed parts s row home at enters c.cspace.0 kind.Cspace
      (slot_parts s.next_serial s.objects c fits).home

  setting_apart : (t : SetAtRow) → setting_fits (s.entries + 1) s.objects t ≡ true → t.cspace.0 ≢ serial
  setting_apart t fits =
      lives_apart owed parts s row home at enters t.cspace.0 kind.Cspace
      (setting_parts (s.entries + 1) s.objects t fits).home

  none_fills : (n : ℕ) → find (fills serial n) s.caps ≡ None
  none_fills n =
      none_found (fills serial n) (slot_fits s.next_serial s.objects) s.caps enters.valid.slots.filled
      (λ c fits here. cap_fits c fits (eqb-true c.cspace.0 serial (and_parts _ _ here).0))

  none_tells : (n : ℕ) → find (tells_setting serial n) s.set_at ≡ None
  none_tells n =
      none_found (tells_setting serial n) (setting_fits (s.entries + 1) s.objects) s.set_at enters.valid.slots.set
      (λ t fits here. setting_apart t fits (eqb-true t.cspace.0 serial (and_parts _ _ here).0))

  -- a valid capability's object isn't new
  object_apart : (c : CapabilityRow) → slot_fits s.next_serial s.objects c ≡ true → c.valid ≡ true
      → c.serial.0 ≢ serial
  object_apart c fits valid =
      lives_apart owed parts s row home at enters c.serial.0 c.kind
      (subst (λ (b : Bool). (not b || lives_as s.objects c.serial.0 c.kind) ≡ true) valid
      (slot_parts s.next_serial s.objects c fits).object)

  shown_by : (word : CapWord) (name : Serial) (number c n : ℕ) (found : Option CapabilityRow)
      → find (fills c n) s.caps ≡ found → ShowsSlot headers word name found number
      → ShowsSlot now word name found number
  shown_by word name number c n None is shows = shows
  shown_by word name number c n (Some cap) is shows = record {
    object = shows.object;
    within = shows.within;
    bits = shows.bits;
    index = λ valid.
        shows.index valid
        ∙ sym (at_there owed parts s row home at enters cap.serial.0
        (object_apart cap (found_all (fills c n) (slot_fits s.next_serial s.objects) s.caps cap enters.valid.slots.filled is) valid));
    named = shows.named;
  }

  abbrev Shown : ℕ → ℕ → Type 0
  Shown c n = ShowsSlot now (word_in slots c n) (name_in slots c n)
      (find (fills c n) s.caps) (setting_number (find (tells_setting c n) s.set_at))

  shown_here : (n : ℕ) → IsTrue (is_slot n) → Shown serial n
  shown_here n is =
      subst (λ (found : Option CapabilityRow). ShowsSlot now (word_in slots serial n) (name_in slots serial n)
      found (setting_number (find (tells_setting serial n) s.set_at))) (sym (none_fills n))
      (opened.empty n (slot_within n is) ∙ sym (ap setting_number (none_tells n)))

  shown_there : (c n : ℕ) → c ≢ serial → IsTrue (is_slot n) → Shown c n
  shown_there c n apart is =
      subst (λ (o : Option Slots). ShowsSlot now (word_at (option_map_or (λ (x : Slots). x.words) o []) n)
      (slice_index_or (option_map_or (λ (x : Slots). x.names) o []) (n - 1) no_serial)
      (find (fills c n) s.caps) (setting_number (find (tells_setting c n) s.set_at)))
      (sym (others_found row.kind row.serial all c apart))
      (shown_by (word_in all c n) (name_in all c n) (setting_number (find (tells_setting c n) s.set_at)) c n
      (find (fills c n) s.caps) refl (enters.stand.slots.words c n is))

  homes_now : (x : ℕ) → is_some (find (is_home x) slots) ≡ lives_as objects x kind.Cspace
  homes_now x =
      elim (cases_eq x serial) [
        | inl same ↦
            subst (λ (n : ℕ). is_some (find (is_home n) slots) ≡ lives_as objects n kind.Cspace) (sym same)
            (opened.there ∙ sym (ap (is_of_kind kind.Cspace) (found_here owed parts s row home at enters)))
        | inr apart ↦
            ap is_some (others_found row.kind row.serial all x apart) ∙ enters.stand.slots.homes x
            ∙ sym (lives_there owed parts s row home at enters x kind.Cspace apart)
      ]

  once_now : (x : ℕ) → count_by (is_home x) slots ≤ 1
  once_now x =
      elim (cases_eq x serial) [
        | inl same ↦
            subst (λ (n : ℕ). count_by (is_home n) slots ≤ 1) (sym same)
            (omega (
              arith,
              counted row.kind row.serial all serial,
              count_unfound (is_home serial) all unopened,
              one_most (row.serial.0 == serial),
            ))
        | inr apart ↦
            omega (
              arith,
              counted row.kind row.serial all x,
              one_false (row.serial.0 == x) (ne_eqb serial x (λ same. apart (sym same))),
              enters.stand.slots.once x,
            )
      ]

  pub slots_now : SlotsStand now slots objects s.caps s.set_at
  slots_now = record {
    homes = homes_now;
    once = once_now;
    sized = λ x one is.
        elim (cases_eq x serial) [
          | inl same ↦ opened.sized one (subst (λ (n : ℕ). find (is_home n) slots ≡ Some one) same is)
          | inr apart ↦ enters.stand.slots.sized x one (sym (others_found row.kind row.serial all x apart) ∙ is)
        ];
    words = λ c n is.
        elim (cases_eq c serial) [
          | inl same ↦ subst (λ (m : ℕ). Shown m n) (sym same) (shown_here n is)
          | inr apart ↦ shown_there c n apart is
        ];
  }
