-- What the words of a capability space's slots tell of the rows.
use Rattle.std.specs.Prelude.{◌==◌, ◌&&◌, ◌-◌, not, ℕ, Bool, List, Option, Some, None, find}
use Rattle.std.specs.Prelude.{slice_index_or, if◌then◌else◌}
use Rattle.std.specs.List.{list_all, list_any, range_with_len}
use Rattle.std.specs.Option.{option_map}
use Rattle.gh_base.specs.CapWord.{kind_of, master_of, rights_of, set_at_of, state_of}
use Rattle.gh_base.specs.declared.cap_word.CapWord.{CapWord}
use Rattle.gh_base.specs.declared.ids.Serial.{Serial}
use Rattle.gh_base.specs.declared.kind.Kind.{Kind}
use Rattle.gh_cspace.specs.Cspace.{free_slot, is_free, is_valid, word_at}
use Rattle.gh_model.specs.CapabilityCalls.{names, rises}
use Rattle.gh_model.specs.Word.{is_slot}
use Rattle.gh_model.specs.declared.rows.CapabilityRow.{CapabilityRow}
use Rattle.gh_model.specs.declared.rows.TakenSlot.{TakenSlot}
use Rattle.gh_model.specs.declared.word.Word.{Word}
use Rattle.gh_parts.specs.Slots.{is_home, no_serial}
use Rattle.gh_parts.specs.declared.slots.Slots.{Slots}

-- the capability of a word, which is of an object of this serial and kind
abbrev pub row_of_kind : Serial → ℕ → CapWord → Serial → Kind → CapabilityRow
row_of_kind cspace slot word object kind = record {
  cspace = cspace;
  slot = slot;
  serial = object;
  kind = kind;
  rights = record { 0 = rights_of word.0 };
  master = master_of word.0;
  valid = is_valid (state_of word.0);
}

-- the capability of a word, if it is that of a filled slot
abbrev pub row_of_word : Serial → ℕ → CapWord → Serial → Option CapabilityRow
row_of_word cspace slot word object =
    if is_free word then None else option_map (row_of_kind cspace slot word object) (kind_of word.0)

-- what a slot with this word holds
abbrev pub held_by : Serial → ℕ → CapWord → Serial → Word
held_by cspace slot word object =
    record { row = row_of_word cspace slot word object; set_at = set_at_of word.0 }

-- the serial beside a slot's word
abbrev pub name_at : Slots → ℕ → Serial
name_at slots slot = slice_index_or slots.names (slot - 1) no_serial

-- what a slot of a capability space holds
abbrev pub held_in : Serial → ℕ → Slots → Word
held_in cspace slot slots =
    held_by cspace slot (word_at slots.words slot) (name_at slots slot)

-- nothing, and no entry set it
abbrev pub nothing_held : Word
nothing_held = record { row = None; set_at = 0 }

abbrev pub held_in_some : Serial → ℕ → Option Slots → Word
held_in_some cspace slot None = nothing_held
held_in_some cspace slot (Some slots) = held_in cspace slot slots

-- what a slot of one of these capability spaces holds; a number that names no slot holds nothing
abbrev pub held : List Slots → Serial → ℕ → Word
held all cspace slot =
    if is_slot slot then held_in_some cspace slot (find (is_home cspace.0) all) else nothing_held

-- the least free slot; of what is no capability space each number is free
abbrev pub free_slot_in : Option Slots → Option ℕ
free_slot_in None = Some 1
free_slot_in (Some slots) = free_slot slots.words

-- a word is a valid capability of the object without master mark, by the serial beside it
abbrev pub is_copy : Serial → CapWord → Serial → Bool
is_copy object word name =
    is_valid (state_of word.0) && not (master_of word.0) && (name.0 == object.0)

abbrev pub is_copy_at : Serial → Slots → ℕ → Bool
is_copy_at object slots slot = is_copy object (word_at slots.words slot) (name_at slots slot)

-- a slot of the capability space has such a capability
abbrev pub has_copy : Serial → Slots → Bool
has_copy object slots = list_any (is_copy_at object slots) (range_with_len 1 127)

-- a slot that was taken has a capability of the object
abbrev pub is_taken_in : List Slots → Serial → TakenSlot → Bool
is_taken_in all object taken = names object (held all taken.cspace taken.slot).row

-- no such capability is left in any of the spaces, and the slots that were taken have capabilities
-- of the object alone, and rise
abbrev pub finished_in : List Slots → List TakenSlot → Serial → Bool
finished_in all taken object =
    not (list_any (has_copy object) all) && list_all (is_taken_in all object) taken && rises taken
