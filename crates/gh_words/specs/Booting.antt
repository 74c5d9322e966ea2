-- The words of a boot before any event.
use Rattle.std.specs.Prelude.{◌≡◌, ◌==◌, ◌%◌, ◌/◌, ◌+◌, ◌<◌, ◌||◌, ℕ, Bool, [], Option, Some, None, count_by, slice_get, if◌then◌else◌}
use Rattle.std.specs.List.{list_any}
use Rattle.gh_base.specs.declared.cap_word.CapWord.{CapWord}
use Rattle.gh_base.specs.declared.limits.TheConstants.{CPUS, OBJECT_INDICES}
use Rattle.gh_events.specs.Bounded.{many_references}
use Rattle.gh_events.specs.Config.{references_at}
use Rattle.gh_events.specs.Start.{boot_dead, serial_at}
use Rattle.gh_events.specs.Entries.{shown}
use Rattle.gh_base.specs.declared.ids.ObjIndex.{ObjIndex}
use Rattle.gh_base.specs.declared.ids.Serial.{Serial}
use Rattle.gh_model.specs.Marks.{cspace_of}
use Rattle.gh_model.specs.Word.{word_at}
use Rattle.gh_model.specs.declared.rows.SetAtRow.{SetAtRow}
use Rattle.gh_words.specs.declared.plain_words.PlainWords.{PlainWords}
use Rattle.gh_model.specs.References.{is_attached_to, is_boot_partition, is_capability_of, is_child_of, is_inhabitant_of, is_link_of, is_mapping_of, is_root_extent, is_share_of, is_slot_of, references}
use Rattle.gh_model.specs.declared.rows.ObjectRow.{ObjectRow}
use Rattle.gh_model.specs.declared.state.State.{State}
use Rattle.gh_schedules.specs.Indices.{boot_index}
use Rattle.gh_words.specs.declared.plain_words.ReferenceWord.{ReferenceWord}
use Rattle.gh_words.specs.declared.plain_words.TheConstants.{CAP_WORDS, SLOT_WORDS}

-- each object of the boot has an index that there is
abbrev pub HasIndices : State → Type 0
HasIndices boot = (serial : ℕ) → boot_index boot serial < OBJECT_INDICES

-- no object has many references
abbrev pub HasFew : State → Type 0
HasFew boot = (serial : ℕ) → references boot serial < many_references

-- the references of an object by what refers to it: slots, objects, memory and VMs
abbrev pub by_slots : State → ℕ → ℕ
by_slots s serial =
    count_by (is_capability_of serial) s.caps + count_by (is_slot_of serial) s.caps

abbrev pub by_objects : State → ℕ → ℕ
by_objects s serial =
    count_by (is_inhabitant_of serial) s.objects + count_by (is_boot_partition serial) s.partitions

abbrev pub by_memory : State → ℕ → ℕ
by_memory s serial =
    count_by (is_mapping_of serial) s.mappings + count_by (is_child_of serial) s.extents
    + count_by (is_share_of serial) s.parcels + count_by (is_root_extent serial) s.extents

abbrev pub by_vms : State → ℕ → ℕ
by_vms s serial =
    count_by (is_attached_to serial) s.cpus + count_by (is_link_of s serial) s.links

-- the index of the object of a row
abbrev pub row_number : State → ObjectRow → ℕ
row_number boot row = boot_index boot row.serial.0

abbrev pub is_number : ℕ → ℕ → Bool
is_number at number = number == at

-- the reference word of an index
abbrev pub boot_word : State → ℕ → ReferenceWord
boot_word boot at = record {
  count = references_at boot (boot_index boot) at;
  dead = boot_dead boot (boot_index boot) at;
}

-- an entry set a slot of the object
abbrev pub is_set_in : ℕ → SetAtRow → Bool
is_set_in serial row = row.cspace.0 == serial

-- a capability lies in the object, or an entry set a slot of it
abbrev pub has_slots : State → ℕ → Bool
has_slots boot serial =
    list_any (is_slot_of serial) boot.caps || list_any (is_set_in serial) boot.set_at

-- the object at an index, where it has slots
abbrev pub space_at : State → ℕ → Option Serial
space_at boot at =
    if has_slots boot (serial_at boot (boot_index boot) at)
    then Some (record { 0 = serial_at boot (boot_index boot) at }) else None

-- the word of a slot of an object; 0 of one that has no slots
abbrev pub slot_word : State → Option Serial → ℕ → CapWord
slot_word boot None slot = record { 0 = 0 }
slot_word boot (Some space) slot =
    record { 0 = shown (boot_index boot) (word_at boot space.0 slot) }

-- the word at a place of the table
abbrev pub placed_word : State → ℕ → CapWord
placed_word boot place = slot_word boot (space_at boot (place / SLOT_WORDS)) (place % SLOT_WORDS)

-- the index of a CPU's capability space
abbrev pub home_index : State → ℕ → ObjIndex
home_index boot cpu = record { 0 = boot_index boot (cspace_of boot cpu) }

-- the tables are those of the boot
pub record AreBooted (words : PlainWords) (boot : State) : Type 0 where
  pub caps : (place : ℕ) → place < CAP_WORDS
      → slice_get words.caps place ≡ Some (placed_word boot place)
  pub references : (at : ℕ) → at < OBJECT_INDICES
      → slice_get words.references at ≡ Some (boot_word boot at)
  pub homes : (cpu : ℕ) → cpu < CPUS → slice_get words.homes cpu ≡ Some (home_index boot cpu)
  pub counters : (cpu : ℕ) → cpu < CPUS → slice_get words.counters cpu ≡ Some 0
  pub places : (cpu : ℕ) → cpu < CPUS → slice_get words.places cpu ≡ Some 0
  pub entries : words.log.entries ≡ []
  pub turn : words.turn ≡ None
  pub bell : words.rings ≡ 0
