-- The parts with one slot changed.
use Rattle.std.specs.Prelude.{ℕ, List, Option}
use Rattle.gh_base.specs.CapWord.{filled_bits}
use Rattle.gh_base.specs.declared.cap_word.CapWord.{CapWord}
use Rattle.gh_model.specs.Rows.{change_row}
use Rattle.gh_model.specs.declared.rows.CapabilityRow.{CapabilityRow}
use Rattle.gh_objects.specs.declared.header.Header.{Header}
use Rattle.gh_parts.specs.Index.{index_of}
use Rattle.gh_parts.specs.Slots.{filled, is_home}
use Rattle.gh_parts.specs.declared.parts.Parts.{Parts}
use Rattle.gh_parts.specs.declared.slots.Slots.{Slots}

-- the word of a row, set by an entry, with its object's index
abbrev pub word_for : List (Option Header) → CapabilityRow → ℕ → CapWord
word_for headers row entry = record {
  0 = filled_bits row.valid row.kind row.master (index_of headers row.serial.0) row.rights.0 entry;
}

-- the parts with the slots of one capability space changed
abbrev pub with_slots : ℕ → (Slots → Slots) → Parts → Parts
with_slots cspace change parts = record parts {
  journal = record (parts.journal) {
    slots = change_row (is_home cspace) change parts.journal.slots;
  };
}

-- the parts with the capability of a row in its slot, set by an entry
abbrev pub with_filled : CapabilityRow → ℕ → Parts → Parts
with_filled row entry parts =
    with_slots row.cspace.0
    (filled row.slot (word_for parts.table.headers row entry) row.serial) parts
