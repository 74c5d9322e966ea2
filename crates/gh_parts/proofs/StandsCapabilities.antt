-- The parts stand for the rows once a slot is filled, emptied or revoked.
use Rattle.std.proofs.Common.{◌≡◌, ◌<◌, ◌≤◌, ◌+◌, ◌-◌, ◌∙◌, ◌∷◌, not, ℕ, Bool, true, List, [], Option, Some, None, refl, sym, ap}
use Rattle.std.proofs.Common.{subst, arith, find, get_or, if◌then◌else◌}
use Rattle.std.proofs.lemmas.Bool.{and_from, eq-eqb, leb-true}
use Rattle.gh_base.specs.CapWord.{state_of}
use Rattle.gh_base.specs.declared.cap_word.CapWord.{CapWord}
use Rattle.gh_base.specs.declared.ids.Serial.{Serial}
use Rattle.gh_cspace.specs.Cspace.{IsFreeSlot, with_word, word_at}
use Rattle.gh_invariant.proofs.Counting.{found_all}
use Rattle.gh_invariant.proofs.SlotsFit.{SettingParts, setting_parts}
use Rattle.gh_invariant.proofs.WordsLeft.{SlotSet, SlotStays, slot_set, slot_stays_all}
use Rattle.gh_invariant.specs.Effects.{leaves}
use Rattle.gh_invariant.specs.Lives.{setting_fits}
use Rattle.gh_invariant.specs.Premises.{MayPut}
use Rattle.gh_invariant.specs.Valid.{IsValidWithin}
use Rattle.gh_model.specs.Changes.{changed, put_capability}
use Rattle.gh_model.specs.Rows.{fills, is_object, tells_setting}
use Rattle.gh_model.specs.Word.{setting, setting_number}
use Rattle.gh_model.specs.declared.change.Change.{Change}
use Rattle.gh_model.specs.declared.change.Change.TheVariants.{PutCapability}
use Rattle.gh_model.specs.declared.rows.CapabilityRow.{CapabilityRow}
use Rattle.gh_model.specs.declared.rows.SetAtRow.{SetAtRow}
use Rattle.gh_model.specs.declared.state.State.{State}
use Rattle.gh_objects.specs.declared.header.Header.{Header}
use Rattle.gh_parts.specs.Index.{index_of}
use Rattle.gh_parts.specs.Making.{HasRoom}
use Rattle.gh_parts.specs.SlotChanges.{with_filled, word_for}
use Rattle.gh_parts.specs.Slots.{filled, is_home, name_in, no_serial, words_of}
use Rattle.gh_parts.specs.Stands.{ReferencesStand, ShowsSlot, Stands, StandsOwing}
use Rattle.gh_parts.specs.declared.parts.Parts.{Parts}
use Rattle.gh_parts.specs.declared.slots.Slots.{Slots}
use Rattle.gh_parts.proofs.Living.{There, index_below, kind_there, there}
use Rattle.gh_parts.proofs.SlotNumbers.{name_here, slot_within, word_here}
use Rattle.gh_parts.proofs.StandsMoved.{references_moved}
use Rattle.gh_parts.proofs.StandsSlots.{filled_changes, slots_stand}
use Rattle.gh_parts.proofs.WordLemmas.{empty_state}

number_by : (s : State) (cspace slot : ℕ) → IsValidWithin s → (found : Option SetAtRow)
    → find (tells_setting cspace slot) s.set_at ≡ found → setting_number found ≤ s.entries + 1
number_by s cspace slot valid None is = omega arith
number_by s cspace slot valid (Some row) is =
    let parts : SettingParts (s.entries + 1) s.objects row =
    setting_parts (s.entries + 1) s.objects row
    (found_all (tells_setting cspace slot) (setting_fits (s.entries + 1) s.objects) s.set_at row valid.slots.set is) in
    leb-true row.number (s.entries + 1) parts.within

-- no slot was set by an entry behind the next
pub number_small : (s : State) (cspace slot : ℕ) → IsValidWithin s → HasRoom s
    → setting s cspace slot < 4294967296
number_small s cspace slot valid room =
    omega (arith, number_by s cspace slot valid (find (tells_setting cspace slot) s.set_at) refl, room.entries)

-- a change leaves the slots that it doesn't set
pub others_stay : (s : State) (change : Change) (c n : ℕ) → leaves c n change ≡ true
    → SlotStays s (changed s change) c n
others_stay s change c n left = slot_stays_all s (change ∷ []) c n (and_from _ _ left refl)

module _ (owed : List Serial) (parts : Parts) (s : State) (stand : StandsOwing owed parts s)
    (row : CapabilityRow) (may : MayPut s row) where
  -- the slots that the row's is one of
  pub home_there : There (find (is_home row.cspace.0) parts.journal.slots)
  home_there =
      there (find (is_home row.cspace.0) parts.journal.slots) (stand.slots.homes row.cspace.0 ∙ may.home)

  -- the object has an index
  pub object_below : index_of parts.table.headers row.serial.0 < 1024
  object_below =
      let live : There (find (is_object row.serial.0) s.objects) =
      kind_there row.kind (find (is_object row.serial.0) s.objects) may.object in
      index_below parts.table.headers parts.shares parts.journal.retirements s.objects stand.objects row.serial.0 live.it live.is

  -- and the slot is free
  pub free_slot : IsValidWithin s → HasRoom s
      → IsFreeSlot (words_of parts.journal.slots row.cspace.0) row.slot
  free_slot valid room =
      let empty : (word_at (words_of parts.journal.slots row.cspace.0) row.slot).0 ≡ setting s row.cspace.0 row.slot =
      subst (λ (found : Option CapabilityRow). ShowsSlot parts.table.headers (word_at (words_of parts.journal.slots row.cspace.0) row.slot)
      (name_in parts.journal.slots row.cspace.0 row.slot) found (setting s row.cspace.0 row.slot))
      may.free (stand.slots.words row.cspace.0 row.slot may.slot) in
      record {
        within = slot_within row.slot may.slot;
        free = ap state_of empty ∙ empty_state (setting s row.cspace.0 row.slot) (number_small s row.cspace.0 row.slot valid room);
      }

module _ (parts : Parts) (s : State) (row : CapabilityRow) (valid : IsValidWithin s) (may : MayPut s row)
    (entry : ℕ) (next : entry ≡ s.entries + 1)
    (stand : StandsOwing (row.cspace ∷ row.serial ∷ []) parts s) where
  abbrev headers : List (Option Header)
  headers = parts.table.headers

  abbrev after : State
  after = changed s (PutCapability row)

  abbrev word : CapWord
  word = word_for headers row entry

  home : There (find (is_home row.cspace.0) parts.journal.slots)
  home = home_there _ parts s stand row may

  set : SlotSet s (changed s (PutCapability row)) row.cspace.0 row.slot (Some row)
  set =
      slot_set s (PutCapability row) row.cspace.0 row.slot may
      (and_from _ _ (eq-eqb row.cspace.0 row.cspace.0 refl) (eq-eqb row.slot row.slot refl))

  shown : ShowsSlot headers word row.serial (Some row) (s.entries + 1)
  shown = record {
    object = index_of headers row.serial.0;
    within = object_below _ parts s stand row may;
    bits = ap (λ (n : ℕ). (word_for headers row n).0) next;
    index = λ is. refl;
    named = refl;
  }

  shows : (slots : Slots) → find (is_home row.cspace.0) parts.journal.slots ≡ Some slots
      → ShowsSlot headers (word_at (with_word slots.words row.slot word) row.slot)
      (get_or (filled row.slot word row.serial slots).names (row.slot - 1) no_serial)
      (find (fills row.cspace.0 row.slot) (changed s (PutCapability row)).caps)
      (setting (changed s (PutCapability row)) row.cspace.0 row.slot)
  shows slots is =
      subst (λ (w : CapWord). ShowsSlot headers w (get_or (filled row.slot word row.serial slots).names (row.slot - 1) no_serial)
      (find (fills row.cspace.0 row.slot) after.caps) (setting after row.cspace.0 row.slot))
      (sym (word_here slots.words row.slot word (slot_within row.slot may.slot) ((stand.slots.sized row.cspace.0 slots is).words)))
      (subst (λ (n : Serial). ShowsSlot headers word n
      (find (fills row.cspace.0 row.slot) after.caps) (setting after row.cspace.0 row.slot))
      (sym (name_here slots.names row.slot row.serial (slot_within row.slot may.slot) ((stand.slots.sized row.cspace.0 slots is).names)))
      (subst (λ (found : Option CapabilityRow). ShowsSlot headers word row.serial found (setting after row.cspace.0 row.slot)) (sym set.capability)
      (subst (λ (n : ℕ). ShowsSlot headers word row.serial (Some row) n) (sym set.setting) shown)))

  pub put_stands : Stands (with_filled row entry parts) (put_capability row s)
  put_stands = record {
    objects = stand.objects;
    kinds = stand.kinds;
    references =
        references_moved (s.entries + 1) s (PutCapability row) valid may headers parts.journal.counts refl
        (subst (λ (owed : List Serial). ReferencesStand headers parts.journal.counts owed s)
        (ap (λ (valid : Bool). row.cspace ∷ (if valid then row.serial ∷ [] else [])) (sym may.valid))
        stand.references);
    bells = stand.bells;
    queues = stand.queues;
    spans = stand.spans;
    spaces = stand.spaces;
    slots =
        slots_stand headers parts.journal.slots s (changed s (PutCapability row)) row.cspace.0 row.slot
        (filled row.slot word row.serial) (filled_changes row.slot word row.serial (slot_within row.slot may.slot))
        home.it home.is stand.slots refl (shows home.it home.is)
        (λ c n apart. others_stay s (PutCapability row) c n (ap not apart));
    units = stand.units;
    memory = stand.memory;
    blocks = stand.blocks;
    numbers = record {
      cpus = stand.numbers.cpus;
      links = stand.numbers.links;
      taken = stand.numbers.taken;
      entries = stand.numbers.entries;
      serials = stand.numbers.serials;
      handles = stand.numbers.handles;
      rings = stand.numbers.rings;
    };
  }
