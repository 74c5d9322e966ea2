-- The slots stand for the rows once one of them is changed.
use Rattle.std.proofs.Common.{◌≡◌, ◌≢◌, ◌≤◌, ◌-◌, ◌∙◌, ◌==◌, ◌&&◌, ℕ, false, List, [], Option, Some, refl, sym, ap, subst, inl, inr}
use Rattle.std.proofs.Common.{find, get_or, is_some, IsTrue}
use Rattle.std.specs.Option.{option_map, option_map_or}
use Rattle.std.proofs.lemmas.Bool.{and_left, and_right, cases_eq, ne_eqb}
use Rattle.std.proofs.lemmas.List.{length-set}
use Rattle.gh_base.specs.declared.cap_word.CapWord.{CapWord}
use Rattle.gh_base.specs.declared.ids.Serial.{Serial}
use Rattle.gh_base.specs.declared.kind.Kind.TheVariants as kind
use Rattle.gh_cspace.specs.Cspace.{IsSlot, word_at}
use Rattle.gh_invariant.proofs.ChangedRow.{count_change_kept, find_change_seen, find_past_change}
use Rattle.gh_invariant.specs.Lives.{lives_as}
use Rattle.gh_invariant.proofs.WordsLeft.{SlotStays}
use Rattle.gh_model.specs.Rows.{change_row, fills, tells_setting}
use Rattle.gh_model.specs.Word.{is_slot, setting_number}
use Rattle.gh_model.specs.declared.state.State.{State}
use Rattle.gh_objects.specs.declared.header.Header.{Header}
use Rattle.gh_parts.specs.Slots.{filled, is_home, name_in, names_of, no_serial, reworded, word_in, words_of}
use Rattle.gh_parts.specs.Stands.{HavePlaces, ShowsSlot, SlotsStand}
use Rattle.gh_parts.specs.declared.slots.Slots.{Slots}
use Rattle.gh_parts.proofs.FoundRows.{find_changed_passing}
use Rattle.gh_parts.proofs.SlotNumbers.{name_there, slot_within, word_there}
use Rattle.gh_parts.proofs.StandsBells.{apart_serials}

-- a change of one slot: what is so of the slots of its capability space
pub record ChangesSlot (slot : ℕ) (change : Slots → Slots) : Type 0 where
  pub home : (slots : Slots) → (change slots).cspace ≡ slots.cspace
  pub sized : (slots : Slots) → HavePlaces slots → HavePlaces (change slots)
  pub words : (slots : Slots) (other : ℕ) → IsSlot other → other ≢ slot
      → word_at (change slots).words other ≡ word_at slots.words other
  pub names : (slots : Slots) (other : ℕ) → IsSlot other → other ≢ slot
      → get_or (change slots).names (other - 1) no_serial ≡ get_or slots.names (other - 1) no_serial

pub filled_changes : (slot : ℕ) (word : CapWord) (name : Serial) → IsSlot slot
    → ChangesSlot slot (filled slot word name)
filled_changes slot word name is = record {
  home = λ slots. refl;
  sized = λ slots have. record {
    words = length-set slots.words (slot - 1) word ∙ have.words;
    names = length-set slots.names (slot - 1) name ∙ have.names;
  };
  words = λ slots other also apart. word_there slots.words slot word is other also apart;
  names = λ slots other also apart. name_there slots.names slot name is other also apart;
}

pub reworded_changes : (slot : ℕ) (word : Slots → CapWord) → IsSlot slot
    → ChangesSlot slot (λ (slots : Slots). reworded slot (word slots) slots)
reworded_changes slot word is = record {
  home = λ slots. refl;
  sized = λ slots have. record {
    words = length-set slots.words (slot - 1) (word slots) ∙ have.words;
    names = have.names;
  };
  words = λ slots other also apart. word_there slots.words slot (word slots) is other also apart;
  names = λ slots other also apart. refl;
}

-- another slot
fails_other : (cspace slot c n : ℕ) → (c ≢ cspace) → ((cspace == c) && (slot == n)) ≡ false
fails_other cspace slot c n apart = and_left _ _ (ne_eqb cspace c (λ same. apart (sym same)))

fails_slot : (cspace slot c n : ℕ) → (n ≢ slot) → ((cspace == c) && (slot == n)) ≡ false
fails_slot cspace slot c n apart = and_right _ _ (ne_eqb slot n (λ same. apart (sym same)))

module _ (headers : List (Option Header)) (all : List Slots) (s s' : State) (cspace slot : ℕ)
    (change : Slots → Slots) (changes : ChangesSlot slot change) (there : Slots)
    (found : find (is_home cspace) all ≡ Some there)
    (stand : SlotsStand headers all s.objects s.caps s.set_at)
    (same : s'.objects ≡ s.objects)
    (shows : ShowsSlot headers (word_at (change there).words slot)
    (get_or (change there).names (slot - 1) no_serial)
    (find (fills cspace slot) s'.caps) (setting_number (find (tells_setting cspace slot) s'.set_at)))
    (stays : (c n : ℕ) → ((cspace == c) && (slot == n)) ≡ false → SlotStays s s' c n) where
  abbrev now : List Slots
  now = change_row (is_home cspace) change all

  home_is : (c : ℕ) (slots : Slots) → is_home c (change slots) ≡ is_home c slots
  home_is c slots = ap (λ (home : Serial). home.0 == c) (changes.home slots)

  found_now : find (is_home cspace) now ≡ Some (change there)
  found_now =
      find_changed_passing (is_home cspace) change all (λ slots passes. home_is cspace slots ∙ passes)
      ∙ ap (option_map change) found

  found_other : (c : ℕ) → c ≢ cspace → find (is_home c) now ≡ find (is_home c) all
  found_other c apart =
      find_past_change (is_home c) (is_home cspace) change all
      (λ slots is. apart_serials cspace c slots.cspace.0 apart is)
      (λ slots is. home_is c slots ∙ apart_serials cspace c slots.cspace.0 apart is)

  words_now : words_of now cspace ≡ (change there).words
  words_now = ap (λ (o : Option Slots). option_map_or (λ (slots : Slots). slots.words) o []) found_now

  words_then : words_of all cspace ≡ there.words
  words_then = ap (λ (o : Option Slots). option_map_or (λ (slots : Slots). slots.words) o []) found

  names_now : names_of now cspace ≡ (change there).names
  names_now = ap (λ (o : Option Slots). option_map_or (λ (slots : Slots). slots.names) o []) found_now

  names_then : names_of all cspace ≡ there.names
  names_then = ap (λ (o : Option Slots). option_map_or (λ (slots : Slots). slots.names) o []) found

  -- what a slot shows
  abbrev Shown : List Slots → State → ℕ → ℕ → Type 0
  Shown slots state c n =
      ShowsSlot headers (word_in slots c n) (name_in slots c n) (find (fills c n) state.caps)
      (setting_number (find (tells_setting c n) state.set_at))

  -- a slot with the same word, name, capability and setting shows the same
  shown_by : (c n : ℕ) → word_in now c n ≡ word_in all c n → name_in now c n ≡ name_in all c n
      → SlotStays s s' c n → Shown all s c n → Shown now s' c n
  shown_by c n word name stay shown =
      subst (λ (w : CapWord). ShowsSlot headers w (name_in now c n) (find (fills c n) s'.caps) (setting_number (find (tells_setting c n) s'.set_at)))
      (sym word)
      (subst (λ (m : Serial). ShowsSlot headers (word_in all c n) m (find (fills c n) s'.caps) (setting_number (find (tells_setting c n) s'.set_at)))
      (sym name)
      (subst (λ (row : Option _). ShowsSlot headers (word_in all c n) (name_in all c n) row (setting_number (find (tells_setting c n) s'.set_at)))
      (sym stay.capability)
      (subst (λ (set : Option _). ShowsSlot headers (word_in all c n) (name_in all c n) (find (fills c n) s.caps) (setting_number set))
      (sym stay.setting) shown)))

  slot_shown : Shown now s' cspace slot
  slot_shown =
      subst (λ (words : List CapWord). ShowsSlot headers (word_at words slot) (name_in now cspace slot)
      (find (fills cspace slot) s'.caps) (setting_number (find (tells_setting cspace slot) s'.set_at)))
      (sym words_now)
      (subst (λ (names : List Serial). ShowsSlot headers (word_at (change there).words slot) (get_or names (slot - 1) no_serial)
      (find (fills cspace slot) s'.caps) (setting_number (find (tells_setting cspace slot) s'.set_at)))
      (sym names_now) shows)

  home_shown : (n : ℕ) → IsTrue (is_slot n) → Shown now s' cspace n
  home_shown n is =
      elim (cases_eq n slot) [
        | inl here ↦ subst (λ (m : ℕ). Shown now s' cspace m) (sym here) slot_shown
        | inr apart ↦
            shown_by cspace n
            (ap (λ (words : List CapWord). word_at words n) words_now
            ∙ changes.words there n (slot_within n is) apart
            ∙ sym (ap (λ (words : List CapWord). word_at words n) words_then))
            (ap (λ (names : List Serial). get_or names (n - 1) no_serial) names_now
            ∙ changes.names there n (slot_within n is) apart
            ∙ sym (ap (λ (names : List Serial). get_or names (n - 1) no_serial) names_then))
            (stays cspace n (fails_slot cspace slot cspace n apart))
            (stand.words cspace n is)
      ]

  shown_now : (c n : ℕ) → IsTrue (is_slot n) → Shown now s' c n
  shown_now c n is =
      elim (cases_eq c cspace) [
        | inl here ↦ subst (λ (m : ℕ). Shown now s' m n) (sym here) (home_shown n is)
        | inr apart ↦
            shown_by c n
            (ap (λ (o : Option Slots). word_at (option_map_or (λ (slots : Slots). slots.words) o []) n) (found_other c apart))
            (ap (λ (o : Option Slots). get_or (option_map_or (λ (slots : Slots). slots.names) o []) (n - 1) no_serial) (found_other c apart))
            (stays c n (fails_other cspace slot c n apart))
            (stand.words c n is)
      ]

  sized_now : (serial : ℕ) (slots : Slots) → find (is_home serial) now ≡ Some slots → HavePlaces slots
  sized_now serial slots is =
      elim (cases_eq serial cspace) [
        | inl here ↦
            let one : Some (change there) ≡ Some slots =
            sym found_now ∙ subst (λ (n : ℕ). find (is_home n) now ≡ Some slots) here is in
            subst HavePlaces (ap (λ (o : Option Slots). option_map_or (λ (x : Slots). x) o there) one)
            (changes.sized there (stand.sized cspace there found))
        | inr apart ↦ stand.sized serial slots (sym (found_other serial apart) ∙ is)
      ]

  pub slots_stand : SlotsStand headers now s'.objects s'.caps s'.set_at
  slots_stand = record {
    homes = λ serial.
        find_change_seen is_some (is_home serial) (is_home cspace) change all (home_is serial) (λ slots. refl)
        ∙ subst (λ (objects : List _). is_some (find (is_home serial) all) ≡ lives_as objects serial kind.Cspace) (sym same) (stand.homes serial);
    once = λ serial.
        subst (λ (n : ℕ). n ≤ 1) (sym (count_change_kept (is_home serial) (is_home cspace) change all (home_is serial)))
        (stand.once serial);
    sized = sized_now;
    words = shown_now;
  }
