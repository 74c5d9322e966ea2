-- The parts stand for the rows once a filled slot is emptied, or its capability revoked.
use Rattle.std.proofs.Common.{◌≡◌, ◌+◌, ◌-◌, ◌∙◌, ◌∷◌, not, ℕ, Bool, true, false, List, [], Option, Some, None, refl, sym, ap}
use Rattle.std.proofs.Common.{subst, find, get_or, length, if◌then◌else◌}
use Rattle.std.specs.Prelude.{IfSome, ◌≤◌}
use Rattle.std.specs.Option.{option_map}
use Rattle.std.proofs.lemmas.Bool.{and_from, eq-eqb}
use Rattle.gh_base.specs.CapWord.{filled_bits, revoked_bits}
use Rattle.gh_base.specs.declared.cap_word.CapWord.{CapWord}
use Rattle.gh_base.specs.declared.ids.Serial.{Serial}
use Rattle.gh_base.specs.declared.limits.TheConstants.{CSPACE_SLOTS}
use Rattle.gh_cspace.specs.Cspace.{empty_word, revoked_word, with_word, word_at}
use Rattle.gh_invariant.proofs.WordsLeft.{SlotSet, slot_set}
use Rattle.gh_invariant.specs.Effects.{losses, object_named, object_of, slot_names}
use Rattle.gh_model.specs.Changes.{as_revoked, changed, drop_capability, revoke_capability}
use Rattle.gh_model.specs.Rows.{fills}
use Rattle.gh_model.specs.Word.{setting}
use Rattle.gh_model.specs.declared.change.Change.TheVariants.{DropCapability, RevokeCapability}
use Rattle.gh_model.specs.declared.rows.CapabilityRow.{CapabilityRow}
use Rattle.gh_model.specs.declared.state.State.{State}
use Rattle.gh_objects.specs.Counts.{without_reference}
use Rattle.gh_objects.specs.declared.header.Header.{Header}
use Rattle.gh_parts.specs.Owing.{HasCount, recounted, settled}
use Rattle.gh_parts.specs.SlotChanges.{with_slots}
use Rattle.gh_parts.specs.Slots.{emptied, no_serial, revoked}
use Rattle.gh_parts.specs.Stands.{ShowsSlot, Stands, StandsOwing}
use Rattle.gh_parts.specs.declared.parts.Parts.{Parts}
use Rattle.gh_parts.specs.declared.slots.Slots.{Slots}
use Rattle.gh_parts.proofs.FilledSlots.{IsFilling, fit, named, names_there, row_home, row_there, shown, slot_is, space_there}
use Rattle.gh_parts.proofs.FilledSlots.{words_there}
use Rattle.gh_parts.proofs.SlotNumbers.{slot_within, word_here}
use Rattle.gh_parts.proofs.StandsCapabilities.{others_stay}
use Rattle.gh_parts.proofs.StandsMoved.{references_moved}
use Rattle.gh_parts.proofs.StandsOwed.{owed_has, settled_next}
use Rattle.gh_parts.proofs.StandsSlots.{reworded_changes, slots_stand}
use Rattle.gh_parts.proofs.WordLemmas.{revoked_filled}

module _ (parts : Parts) (s : State) (cspace : Serial) (slot : ℕ) (at : IsFilling parts s cspace.0 slot)
    (entry : ℕ) (next : entry ≡ s.entries + 1) where
  abbrev headers : List (Option Header)
  headers = parts.table.headers

  abbrev space : Slots
  space = (space_there parts s cspace.0 slot at).it

  abbrev row : CapabilityRow
  row = (row_there parts s cspace.0 slot at).it

  sized : length space.words ≡ CSPACE_SLOTS
  sized = (at.stand.slots.sized cspace.0 space ((space_there parts s cspace.0 slot at).is)).words

  -- emptied
  abbrev empty : State
  empty = changed s (DropCapability cspace slot)

  drop_set : SlotSet s empty cspace.0 slot None
  drop_set =
      slot_set s (DropCapability cspace slot) cspace.0 slot at.fill
      (and_from _ _ (eq-eqb cspace.0 cspace.0 refl) (eq-eqb slot slot refl))

  drop_shows : ShowsSlot headers (word_at (with_word space.words slot (empty_word entry)) slot)
      (get_or space.names (slot - 1) no_serial) (find (fills cspace.0 slot) empty.caps) (setting empty cspace.0 slot)
  drop_shows =
      subst (λ (found : Option CapabilityRow). ShowsSlot headers (word_at (with_word space.words slot (empty_word entry)) slot)
      (get_or space.names (slot - 1) no_serial) found (setting empty cspace.0 slot)) (sym drop_set.capability)
      (ap (λ (w : CapWord). w.0) (word_here space.words slot (empty_word entry) (slot_within slot (slot_is parts s cspace.0 slot at)) sized)
      ∙ next ∙ sym drop_set.setting)

  pub drop_stands : StandsOwing (losses s (DropCapability cspace slot))
      (with_slots cspace.0 (emptied slot entry) parts) (drop_capability cspace slot s)
  drop_stands = record {
    objects = at.stand.objects;
    kinds = at.stand.kinds;
    references =
        references_moved (s.entries + 1) s (DropCapability cspace slot) at.valid at.fill headers parts.journal.counts refl at.stand.references;
    bells = at.stand.bells;
    queues = at.stand.queues;
    spans = at.stand.spans;
    spaces = at.stand.spaces;
    slots =
        slots_stand headers parts.journal.slots s empty cspace.0 slot (emptied slot entry)
        (reworded_changes slot (λ (slots : Slots). empty_word entry) (slot_within slot (slot_is parts s cspace.0 slot at)))
        space ((space_there parts s cspace.0 slot at).is) at.stand.slots refl drop_shows
        (λ c n apart. others_stay s (DropCapability cspace slot) c n (ap not apart));
    units = at.stand.units;
    memory = at.stand.memory;
    blocks = at.stand.blocks;
    numbers = record {
      cpus = at.stand.numbers.cpus;
      links = at.stand.numbers.links;
      taken = at.stand.numbers.taken;
      entries = at.stand.numbers.entries;
      serials = at.stand.numbers.serials;
      handles = at.stand.numbers.handles;
      rings = at.stand.numbers.rings;
    };
  }

  -- revoked
  abbrev dead : State
  dead = changed s (RevokeCapability cspace slot)

  revoke_set : SlotSet s dead cspace.0 slot (option_map as_revoked (find (fills cspace.0 slot) s.caps))
  revoke_set =
      slot_set s (RevokeCapability cspace slot) cspace.0 slot at.fill
      (and_from _ _ (eq-eqb cspace.0 cspace.0 refl) (eq-eqb slot slot refl))

  abbrev dead_word : CapWord
  dead_word = revoked_word (word_at space.words slot) entry

  dead_bits : dead_word.0 ≡ filled_bits false row.kind row.master (shown parts s cspace.0 slot at).object row.rights.0 (s.entries + 1)
  dead_bits =
      ap (λ (words : List CapWord). revoked_bits (word_at words slot).0 entry) (sym (words_there parts s cspace.0 slot at))
      ∙ ap (λ (bits : ℕ). revoked_bits bits entry) (shown parts s cspace.0 slot at).bits
      ∙ revoked_filled row.valid row.kind row.master (shown parts s cspace.0 slot at).object row.rights.0
      (setting s cspace.0 slot) entry (fit parts s cspace.0 slot at)
      ∙ ap (filled_bits false row.kind row.master (shown parts s cspace.0 slot at).object row.rights.0) next

  dead_shown : ShowsSlot headers dead_word (get_or space.names (slot - 1) no_serial) (Some (as_revoked row)) (s.entries + 1)
  dead_shown = record {
    object = (shown parts s cspace.0 slot at).object;
    within = (shown parts s cspace.0 slot at).within;
    bits = dead_bits;
    index = λ is. absurd (let never : ⊥ = cc in never);
    named =
        ap (λ (names : List Serial). get_or names (slot - 1) no_serial) (sym (names_there parts s cspace.0 slot at))
        ∙ (shown parts s cspace.0 slot at).named;
  }

  revoke_shows : ShowsSlot headers (word_at (with_word space.words slot dead_word) slot)
      (get_or space.names (slot - 1) no_serial) (find (fills cspace.0 slot) dead.caps) (setting dead cspace.0 slot)
  revoke_shows =
      subst (λ (w : CapWord). ShowsSlot headers w (get_or space.names (slot - 1) no_serial) (find (fills cspace.0 slot) dead.caps) (setting dead cspace.0 slot))
      (sym (word_here space.words slot dead_word (slot_within slot (slot_is parts s cspace.0 slot at)) sized))
      (subst (λ (found : Option CapabilityRow). ShowsSlot headers dead_word (get_or space.names (slot - 1) no_serial) found (setting dead cspace.0 slot))
      (sym (revoke_set.capability ∙ ap (option_map as_revoked) (row_there parts s cspace.0 slot at).is))
      (subst (λ (n : ℕ). ShowsSlot headers dead_word (get_or space.names (slot - 1) no_serial) (Some (as_revoked row)) n)
      (sym revoke_set.setting) dead_shown))

  pub revoke_stands : StandsOwing (losses s (RevokeCapability cspace slot))
      (with_slots cspace.0 (revoked slot entry) parts) (revoke_capability cspace slot s)
  revoke_stands = record {
    objects = at.stand.objects;
    kinds = at.stand.kinds;
    references =
        references_moved (s.entries + 1) s (RevokeCapability cspace slot) at.valid at.fill headers parts.journal.counts refl at.stand.references;
    bells = at.stand.bells;
    queues = at.stand.queues;
    spans = at.stand.spans;
    spaces = at.stand.spaces;
    slots =
        slots_stand headers parts.journal.slots s dead cspace.0 slot (revoked slot entry)
        (reworded_changes slot (λ (slots : Slots). revoked_word (word_at slots.words slot) entry) (slot_within slot (slot_is parts s cspace.0 slot at)))
        space ((space_there parts s cspace.0 slot at).is) at.stand.slots refl revoke_shows
        (λ c n apart. others_stay s (RevokeCapability cspace slot) c n (ap not apart));
    units = at.stand.units;
    memory = at.stand.memory;
    blocks = at.stand.blocks;
    numbers = record {
      cpus = at.stand.numbers.cpus;
      links = at.stand.numbers.links;
      taken = at.stand.numbers.taken;
      entries = at.stand.numbers.entries;
      serials = at.stand.numbers.serials;
      handles = at.stand.numbers.handles;
      rings = at.stand.numbers.rings;
    };
  }

  -- what the emptied slot owes: its capability space, and the object of a valid capability
  pub drop_owes : losses s (DropCapability cspace slot) ≡ cspace ∷ object_of row
  drop_owes =
      ap slot_names (row_there parts s cspace.0 slot at).is
      ∙ ap (λ (n : ℕ). (record { 0 = n }) ∷ object_of row) (row_home parts s cspace.0 slot at)

  -- what the revoked one owes: the object of a valid capability
  pub revoke_owes : losses s (RevokeCapability cspace slot) ≡ object_of row
  revoke_owes = ap object_named (row_there parts s cspace.0 slot at).is

-- an object that is owed where the capability is valid
pub named_has : (parts : Parts) (s : State) (row : CapabilityRow) (object : Option Serial)
    → object ≡ named row → StandsOwing (object_of row) parts s
    → IfSome object (λ (one : Serial). HasCount parts one.0 (λ (n : ℕ). 1 ≤ n))
named_has parts s row object is stand =
    subst (λ (o : Option Serial). IfSome o (λ (one : Serial). HasCount parts one.0 (λ (n : ℕ). 1 ≤ n))) (sym is)
    (by_valid row.valid refl)
  where
    by_valid : (valid : Bool) → row.valid ≡ valid
        → IfSome (if valid then Some row.serial else None) (λ (one : Serial). HasCount parts one.0 (λ (n : ℕ). 1 ≤ n))
    by_valid true valid =
        owed_has parts s [] row.serial
        (subst (λ (b : Bool). StandsOwing (if b then row.serial ∷ [] else []) parts s) valid stand)
    by_valid false valid = tt

-- and is settled
pub named_settled : (parts now : Parts) (s : State) (row : CapabilityRow) (object : Option Serial)
    → object ≡ named row → StandsOwing (object_of row) parts s → now ≡ settled object parts
    → Stands now s
named_settled parts now s row object is stand put =
    by_valid row.valid refl (put ∙ ap (λ (o : Option Serial). settled o parts) is)
  where
    by_valid : (valid : Bool) → row.valid ≡ valid
        → now ≡ settled (if row.valid then Some row.serial else None) parts → Stands now s
    by_valid true valid put =
        settled_next parts now s [] row.serial
        (subst (λ (b : Bool). StandsOwing (if b then row.serial ∷ [] else []) parts s) valid stand)
        (put ∙ ap (λ (b : Bool). settled (if b then Some row.serial else None) parts) valid)
    by_valid false valid put =
        subst (λ (next : Parts). Stands next s)
        (sym (put ∙ ap (λ (b : Bool). settled (if b then Some row.serial else None) parts) valid))
        (subst (λ (b : Bool). StandsOwing (if b then row.serial ∷ [] else []) parts s) valid stand)

-- the references that an emptied slot owes
pub dropped : (parts now : Parts) (s : State) (cspace : Serial) (slot : ℕ)
    → (at : IsFilling parts s cspace.0 slot)
    → now ≡ with_slots cspace.0 (emptied slot (parts.journal.entries + 1)) parts
    → StandsOwing (cspace ∷ object_of (row_there parts s cspace.0 slot at).it) now (drop_capability cspace slot s)
dropped parts now s cspace slot at is =
    let next : parts.journal.entries + 1 ≡ s.entries + 1 = ap (λ (n : ℕ). n + 1) at.stand.numbers.entries in
    subst (λ (one : Parts). StandsOwing (cspace ∷ object_of (row_there parts s cspace.0 slot at).it) one (drop_capability cspace slot s))
    (sym is)
    (subst (λ (owed : List Serial). StandsOwing owed (with_slots cspace.0 (emptied slot (parts.journal.entries + 1)) parts) (drop_capability cspace slot s))
    (drop_owes parts s cspace slot at (parts.journal.entries + 1) next)
    (drop_stands parts s cspace slot at (parts.journal.entries + 1) next))

-- the references that a revoked one owes
pub killed : (parts now : Parts) (s : State) (cspace : Serial) (slot : ℕ)
    → (at : IsFilling parts s cspace.0 slot)
    → now ≡ with_slots cspace.0 (revoked slot (parts.journal.entries + 1)) parts
    → StandsOwing (object_of (row_there parts s cspace.0 slot at).it) now (revoke_capability cspace slot s)
killed parts now s cspace slot at is =
    let next : parts.journal.entries + 1 ≡ s.entries + 1 = ap (λ (n : ℕ). n + 1) at.stand.numbers.entries in
    subst (λ (one : Parts). StandsOwing (object_of (row_there parts s cspace.0 slot at).it) one (revoke_capability cspace slot s))
    (sym is)
    (subst (λ (owed : List Serial). StandsOwing owed (with_slots cspace.0 (revoked slot (parts.journal.entries + 1)) parts) (revoke_capability cspace slot s))
    (revoke_owes parts s cspace slot at (parts.journal.entries + 1) next)
    (revoke_stands parts s cspace slot at (parts.journal.entries + 1) next))

-- the state that an emptied slot leaves, once its capability space is settled
pub dropped_home : (parts empty now : Parts) (s : State) (cspace : Serial) (slot : ℕ)
    → (at : IsFilling parts s cspace.0 slot)
    → empty ≡ with_slots cspace.0 (emptied slot (parts.journal.entries + 1)) parts
    → now ≡ recounted without_reference empty cspace.0
    → StandsOwing (object_of (row_there parts s cspace.0 slot at).it) now (drop_capability cspace slot s)
dropped_home parts empty now s cspace slot at is put =
    settled_next empty now (drop_capability cspace slot s) (object_of (row_there parts s cspace.0 slot at).it) cspace
    (dropped parts empty s cspace slot at is) put
