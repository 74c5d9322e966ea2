-- The parts stand for the rows once a slot is filled before the first entry.
use Rattle.std.proofs.Common.{◌≡◌, ◌+◌, ◌-◌, ◌∙◌, ◌∷◌, not, Bool, List, [], Option, Some, refl, sym, ap, subst, find, get_or}
use Rattle.std.proofs.Common.{if◌then◌else◌}
use Rattle.std.specs.Option.{option_map_or}
use Rattle.std.proofs.lemmas.Bool.{and_from, eq-eqb}
use Rattle.std.proofs.Math.Nat.{mod-eq_of_lt}
use Rattle.gh_base.specs.CapWord.{set_at_of}
use Rattle.gh_base.specs.declared.cap_word.CapWord.{CapWord}
use Rattle.gh_base.specs.declared.ids.Serial.{Serial}
use Rattle.gh_cspace.specs.Cspace.{with_word, word_at}
use Rattle.gh_invariant.proofs.Counting.{find_push_new}
use Rattle.gh_invariant.specs.Premises.{MayPut}
use Rattle.gh_invariant.specs.Valid.{IsValidWithin}
use Rattle.gh_model.specs.Changes.{changed, fill_slot}
use Rattle.gh_model.specs.Rows.{fills}
use Rattle.gh_model.specs.Word.{setting}
use Rattle.gh_model.specs.declared.change.Change.TheVariants.{FillSlot}
use Rattle.gh_model.specs.declared.rows.CapabilityRow.{CapabilityRow}
use Rattle.gh_model.specs.declared.state.State.{State}
use Rattle.gh_objects.specs.declared.header.Header.{Header}
use Rattle.gh_parts.specs.Index.{index_of}
use Rattle.gh_parts.specs.Making.{HasRoom}
use Rattle.gh_parts.specs.SlotChanges.{with_filled, word_for}
use Rattle.gh_parts.specs.Slots.{filled, is_home, name_in, no_serial, set_at_by, word_in}
use Rattle.gh_parts.specs.Stands.{ReferencesStand, ShowsSlot, Stands, StandsOwing}
use Rattle.gh_parts.specs.declared.parts.Parts.{Parts}
use Rattle.gh_parts.specs.declared.slots.Slots.{Slots}
use Rattle.gh_parts.proofs.Living.{There}
use Rattle.gh_parts.proofs.SlotNumbers.{name_here, slot_within, word_here}
use Rattle.gh_parts.proofs.StandsCapabilities.{home_there, number_small, object_below, others_stay}
use Rattle.gh_parts.proofs.StandsMoved.{references_moved}
use Rattle.gh_parts.proofs.StandsSlots.{filled_changes, slots_stand}

module _ (parts : Parts) (s : State) (row : CapabilityRow) (valid : IsValidWithin s) (room : HasRoom s)
    (may : MayPut s row) (stand : StandsOwing (row.cspace ∷ row.serial ∷ []) parts s) where
  abbrev headers : List (Option Header)
  headers = parts.table.headers

  home : There (find (is_home row.cspace.0) parts.journal.slots)
  home = home_there _ parts s stand row may

  free_word : (word_in parts.journal.slots row.cspace.0 row.slot).0 ≡ setting s row.cspace.0 row.slot
  free_word =
      subst (λ (found : Option CapabilityRow). ShowsSlot headers (word_in parts.journal.slots row.cspace.0 row.slot)
      (name_in parts.journal.slots row.cspace.0 row.slot) found (setting s row.cspace.0 row.slot))
      may.free (stand.slots.words row.cspace.0 row.slot may.slot)

  -- what the free slot tells is its setting
  pub setting_told : set_at_by row.slot (find (is_home row.cspace.0) parts.journal.slots)
      ≡ setting s row.cspace.0 row.slot
  setting_told =
      ap (set_at_by row.slot) home.is
      ∙ ap (λ (words : List CapWord). set_at_of (word_at words row.slot).0)
      (sym (ap (λ (o : Option Slots). option_map_or (λ (slots : Slots). slots.words) o []) home.is))
      ∙ ap set_at_of free_word
      ∙ mod-eq_of_lt (number_small s row.cspace.0 row.slot valid room)

  abbrev after : State
  after = changed s (FillSlot row)

  abbrev word : CapWord
  word = word_for headers row (setting s row.cspace.0 row.slot)

  there : find (fills row.cspace.0 row.slot) after.caps ≡ Some row
  there =
      find_push_new (fills row.cspace.0 row.slot) s.caps row may.free
      (and_from _ _ (eq-eqb row.cspace.0 row.cspace.0 refl) (eq-eqb row.slot row.slot refl))

  shown : ShowsSlot headers word row.serial (Some row) (setting after row.cspace.0 row.slot)
  shown = record {
    object = index_of headers row.serial.0;
    within = object_below _ parts s stand row may;
    bits = refl;
    index = λ is. refl;
    named = refl;
  }

  shows : (slots : Slots) → find (is_home row.cspace.0) parts.journal.slots ≡ Some slots
      → ShowsSlot headers (word_at (with_word slots.words row.slot word) row.slot)
      (get_or (filled row.slot word row.serial slots).names (row.slot - 1) no_serial)
      (find (fills row.cspace.0 row.slot) after.caps) (setting after row.cspace.0 row.slot)
  shows slots is =
      subst (λ (w : CapWord). ShowsSlot headers w (get_or (filled row.slot word row.serial slots).names (row.slot - 1) no_serial)
      (find (fills row.cspace.0 row.slot) after.caps) (setting after row.cspace.0 row.slot))
      (sym (word_here slots.words row.slot word (slot_within row.slot may.slot) ((stand.slots.sized row.cspace.0 slots is).words)))
      (subst (λ (n : Serial). ShowsSlot headers word n (find (fills row.cspace.0 row.slot) after.caps) (setting after row.cspace.0 row.slot))
      (sym (name_here slots.names row.slot row.serial (slot_within row.slot may.slot) ((stand.slots.sized row.cspace.0 slots is).names)))
      (subst (λ (found : Option CapabilityRow). ShowsSlot headers word row.serial found (setting after row.cspace.0 row.slot)) (sym there) shown))

  pub filled_stands : Stands (with_filled row (setting s row.cspace.0 row.slot) parts) (fill_slot row s)
  filled_stands = record {
    objects = stand.objects;
    kinds = stand.kinds;
    references =
        references_moved (s.entries + 1) s (FillSlot row) valid may headers parts.journal.counts refl
        (subst (λ (owed : List Serial). ReferencesStand headers parts.journal.counts owed s)
        (ap (λ (valid : Bool). row.cspace ∷ (if valid then row.serial ∷ [] else [])) (sym may.valid))
        stand.references);
    bells = stand.bells;
    queues = stand.queues;
    spans = stand.spans;
    spaces = stand.spaces;
    slots =
        slots_stand headers parts.journal.slots s after row.cspace.0 row.slot
        (filled row.slot word row.serial) (filled_changes row.slot word row.serial (slot_within row.slot may.slot))
        home.it home.is stand.slots refl (shows home.it home.is)
        (λ c n apart. others_stay s (FillSlot row) c n (ap not apart));
    units = stand.units;
    memory = stand.memory;
    blocks = stand.blocks;
    numbers = record {
      cpus = stand.numbers.cpus;
      links = stand.numbers.links;
      taken = stand.numbers.taken;
      entries = stand.numbers.entries;
      serials = stand.numbers.serials;
      handles = stand.numbers.handles;
      rings = stand.numbers.rings;
    };
  }
