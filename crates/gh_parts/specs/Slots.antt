-- The slots of the live capability spaces: a list with one set of slots for each of them, and how a
-- slot in it is filled, emptied and revoked.
use Rattle.std.specs.Prelude.{◌≡◌, ◌==◌, ◌-◌, ℕ, Bool, false, List, [], Option, Some, None, find}
use Rattle.std.specs.Prelude.{replicate, slice_index_or, slice_set, if◌then◌else◌}
use Rattle.std.specs.Option.{option_map_or}
use Rattle.gh_base.specs.CapWord.{set_at_of, state_of}
use Rattle.gh_base.specs.declared.cap_word.CapWord.{CapWord}
use Rattle.gh_base.specs.declared.ids.Serial.{Serial}
use Rattle.gh_base.specs.declared.limits.TheConstants.{CSPACE_SLOTS}
use Rattle.gh_cspace.specs.Cspace.{IsSlot, empty_word, is_free, is_valid, never_set, revoked_word}
use Rattle.gh_cspace.specs.Cspace.{with_word, word_at}
use Rattle.gh_parts.specs.declared.slots.Slots.{Slots}

-- no object has this serial
abbrev pub no_serial : Serial
no_serial = record { 0 = 0 }

-- slots that are all free, set by no entry
abbrev pub new_slots : Serial → Slots
new_slots cspace = record {
  cspace = cspace;
  words = replicate CSPACE_SLOTS never_set;
  names = replicate CSPACE_SLOTS no_serial;
}

-- the slots with a word of the object in one of them
abbrev pub filled : ℕ → CapWord → Serial → Slots → Slots
filled slot word object slots = record slots {
  words = with_word slots.words slot word;
  names = slice_set slots.names (slot - 1) object;
}

-- the slots with another word in one of them, of the same object or of none
abbrev pub reworded : ℕ → CapWord → Slots → Slots
reworded slot word slots = record slots { words = with_word slots.words slot word }

-- the slots with one of them emptied by an entry
abbrev pub emptied : ℕ → ℕ → Slots → Slots
emptied slot entry slots = reworded slot (empty_word entry) slots

-- the slots with the capability in one of them revoked by an entry
abbrev pub revoked : ℕ → ℕ → Slots → Slots
revoked slot entry slots = reworded slot (revoked_word (word_at slots.words slot) entry) slots

-- these are the slots of the capability space
abbrev pub is_home : ℕ → Slots → Bool
is_home cspace slots = slots.cspace.0 == cspace

-- the words of a capability space; none of what is none
abbrev pub words_of : List Slots → ℕ → List CapWord
words_of all cspace = option_map_or (λ (slots : Slots). slots.words) (find (is_home cspace) all) []

-- the serials of its words
abbrev pub names_of : List Slots → ℕ → List Serial
names_of all cspace = option_map_or (λ (slots : Slots). slots.names) (find (is_home cspace) all) []

-- the word of a slot, and the serial of its object
abbrev pub word_in : List Slots → ℕ → ℕ → CapWord
word_in all cspace slot = word_at (words_of all cspace) slot

abbrev pub name_in : List Slots → ℕ → ℕ → Serial
name_in all cspace slot = slice_index_or (names_of all cspace) (slot - 1) no_serial

-- the slot is filled
pub record IsFilledSlot (words : List CapWord) (slot : ℕ) : Type 0 where
  pub within : IsSlot slot
  pub filled : is_free (word_at words slot) ≡ false

-- the object of the valid capability in a slot, if there is one
abbrev pub granted_in : ℕ → Slots → Option Serial
granted_in slot slots =
    if is_valid (state_of (word_at slots.words slot).0)
    then Some (slice_index_or slots.names (slot - 1) no_serial) else None

abbrev pub granted_by : ℕ → Option Slots → Option Serial
granted_by slot None = None
granted_by slot (Some slots) = granted_in slot slots

-- the number of the entry that last set a slot
abbrev pub set_at_in : ℕ → Slots → ℕ
set_at_in slot slots = set_at_of (word_at slots.words slot).0

abbrev pub set_at_by : ℕ → Option Slots → ℕ
set_at_by slot None = 0
set_at_by slot (Some slots) = set_at_in slot slots
