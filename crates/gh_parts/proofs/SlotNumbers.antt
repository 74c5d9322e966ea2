-- The word under a capability number, and that of another slot.
use Rattle.std.proofs.Common.{◌≡◌, ◌≢◌, ◌-◌, ◌∙◌, ℕ, true, List, refl, sym, arith, length, get_or, set, nat_le, IsTrue}
use Rattle.std.proofs.lemmas.Bool.{and_parts, leb-true, ne_eqb}
use Rattle.std.proofs.lemmas.List.{get_or-set_other, get_or-set_same}
use Rattle.gh_base.specs.declared.cap_word.CapWord.{CapWord}
use Rattle.gh_base.specs.declared.ids.Serial.{Serial}
use Rattle.gh_base.specs.declared.limits.TheConstants.{CSPACE_SLOTS}
use Rattle.gh_cspace.specs.Cspace.{IsSlot, never_set, with_word, word_at}
use Rattle.gh_model.specs.Word.{is_slot}
use Rattle.gh_parts.specs.Slots.{no_serial}

-- a number that names a slot
pub slot_within : (slot : ℕ) → IsTrue (is_slot slot) → IsSlot slot
slot_within slot is =
    let parts : (nat_le 1 slot ≡ true) × (nat_le slot 127 ≡ true) = and_parts _ _ is in
    record { least = leb-true 1 slot parts.0; greatest = leb-true slot 127 parts.1 }

module _ (words : List CapWord) (slot : ℕ) (is : IsSlot slot) where
  pub word_is : word_at words slot ≡ get_or words (slot - 1) never_set
  word_is = rw (ne_eqb slot 0 (λ none. omega (arith, is.least))) refl

other_place : (slot other : ℕ) → IsSlot slot → IsSlot other → other ≢ slot → other - 1 ≢ slot - 1
other_place slot other is also apart same = apart (omega (arith, is.least, also.least))

module _ (words : List CapWord) (slot : ℕ) (word : CapWord) (is : IsSlot slot) where
  -- the slot has the word
  pub word_here : length words ≡ CSPACE_SLOTS → word_at (with_word words slot word) slot ≡ word
  word_here sized =
      word_is (with_word words slot word) slot is
      ∙ get_or-set_same words (slot - 1) word never_set (omega (arith, sized, is.least, is.greatest))

  -- and every other what it had
  pub word_there : (other : ℕ) → IsSlot other → other ≢ slot
      → word_at (with_word words slot word) other ≡ word_at words other
  word_there other also apart =
      word_is (with_word words slot word) other also
      ∙ get_or-set_other words (slot - 1) (other - 1) word never_set (other_place slot other is also apart)
      ∙ sym (word_is words other also)

module _ (names : List Serial) (slot : ℕ) (name : Serial) (is : IsSlot slot) where
  pub name_here : length names ≡ CSPACE_SLOTS
      → get_or (set names (slot - 1) name) (slot - 1) no_serial ≡ name
  name_here sized =
      get_or-set_same names (slot - 1) name no_serial (omega (arith, sized, is.least, is.greatest))

  pub name_there : (other : ℕ) → IsSlot other → other ≢ slot
      → get_or (set names (slot - 1) name) (other - 1) no_serial ≡ get_or names (other - 1) no_serial
  name_there other also apart =
      get_or-set_other names (slot - 1) (other - 1) name no_serial (other_place slot other is also apart)
