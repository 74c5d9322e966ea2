-- A capability space as callers see it: the words of slots 1 to 127, in order.
use Rattle.std.specs.Prelude.{◌≡◌, ◌==◌, ◌&&◌, ℕ, ◌+◌, ◌-◌, ◌≤◌}
use Rattle.std.specs.Prelude.{Bool, true, false, not, List, Option, Some, None, Result, Ok, Err}
use Rattle.std.specs.Prelude.{position, filter_map, slice_index_or, slice_set, if◌then◌else◌}
use Rattle.std.specs.List.{enumerate_from}
use Rattle.std.specs.Option.{option_map}
use Rattle.gh_base.specs.CapWord.{state_of, master_of, object_of, revoked_bits, masked_bits}
use Rattle.gh_base.specs.declared.cap_word.CapWord.{CapWord}
use Rattle.gh_base.specs.declared.cap_word.CapState.{CapState}
use Rattle.gh_base.specs.declared.cap_word.CapState.TheVariants.{Empty, Valid, Revoked}
use Rattle.gh_base.specs.declared.limits.TheConstants.{CSPACE_SLOTS}
use Rattle.gh_base.specs.declared.errno.Errno.{Errno}
use Rattle.gh_base.specs.declared.errno.Errno.TheVariants.{CapNull, CapRevoked, InsufRights}

-- the word of a slot that no entry has set, and of every number that is no slot
abbrev pub never_set : CapWord
never_set = record { 0 = 0 }

-- the word under a capability number
abbrev pub word_at : List CapWord → ℕ → CapWord
word_at words slot = if slot == 0 then never_set else slice_index_or words (slot - 1) never_set

-- the words after one slot is set
abbrev pub with_word : List CapWord → ℕ → CapWord → List CapWord
with_word words slot word = slice_set words (slot - 1) word

-- a state in which a slot is free
abbrev pub is_empty : CapState → Bool
is_empty Empty = true
is_empty Valid = false
is_empty Revoked = false

-- a state in which a capability grants
abbrev pub is_valid : CapState → Bool
is_valid Empty = false
is_valid Valid = true
is_valid Revoked = false

-- the word leaves its slot free
abbrev pub is_free : CapWord → Bool
is_free word = is_empty (state_of word.0)

-- a number from 1 to the greatest slot
pub record IsSlot (slot : ℕ) : Type 0 where
  pub least : 1 ≤ slot
  pub greatest : slot ≤ CSPACE_SLOTS

-- a slot that is free
pub record IsFreeSlot (words : List CapWord) (slot : ℕ) : Type 0 where
  pub within : IsSlot slot
  pub free : state_of (word_at words slot).0 ≡ Empty

-- the least free slot
abbrev pub free_slot : List CapWord → Option ℕ
free_slot words = option_map (λ place. place + 1) (position is_free words)

-- the word is a valid capability of the object and not its master
abbrev pub is_child : ℕ → CapWord → Bool
is_child object word =
    is_valid (state_of word.0) && (not (master_of word.0) && (object_of word.0 == object))

-- the slot, where its word is a child of the object
abbrev pub child_slot : ℕ → (ℕ × CapWord) → Option ℕ
child_slot object entry = if is_child object entry.1 then Some entry.0 else None

-- the slots of the object's children, rising
abbrev pub children : ℕ → List CapWord → List ℕ
children object words = filter_map (child_slot object) (enumerate_from 1 words)

-- a copy: the rights that the mask leaves, no master mark, set by this entry
abbrev pub copy_word : CapWord → ℕ → ℕ → CapWord
copy_word source mask entry = record { 0 = masked_bits source.0 mask entry }

-- a word that an entry revoked
abbrev pub revoked_word : CapWord → ℕ → CapWord
revoked_word word entry = record { 0 = revoked_bits word.0 entry }

-- the word of a slot that an entry emptied
abbrev pub empty_word : ℕ → CapWord
empty_word entry = record { 0 = entry }

-- what delete answers at a word in this state: 50 for an empty slot, else the word
abbrev pub delete_answer_in : CapState → CapWord → Result CapWord Errno
delete_answer_in Empty word = Err CapNull
delete_answer_in Valid word = Ok word
delete_answer_in Revoked word = Ok word

-- what delete answers where this word stands
abbrev pub delete_answer : CapWord → Result CapWord Errno
delete_answer word = delete_answer_in (state_of word.0) word

-- what revoke answers at a word in this state and with this master mark: 50 for an empty slot, 51
-- for a revoked capability, 53 for a master capability, else the word
abbrev pub revoke_answer_in : CapState → Bool → CapWord → Result CapWord Errno
revoke_answer_in Empty master word = Err CapNull
revoke_answer_in Revoked master word = Err CapRevoked
revoke_answer_in Valid true word = Err InsufRights
revoke_answer_in Valid false word = Ok word

-- what revoke answers where this word stands
abbrev pub revoke_answer : CapWord → Result CapWord Errno
revoke_answer word = revoke_answer_in (state_of word.0) (master_of word.0) word

-- the slot has this word now, and every other slot keeps its word
pub record SetsSlot (old new : List CapWord) (slot : ℕ) (word : CapWord) : Type 0 where
  pub within : IsSlot slot
  pub changed : new ≡ with_word old slot word
