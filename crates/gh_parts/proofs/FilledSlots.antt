-- What the word of a filled slot says.
use Rattle.std.proofs.Common.{◌≡◌, ◌-◌, ◌∙◌, ◌==◌, ℕ, Bool, true, false, List, [], Option, Some, None, refl, sym, ap, subst, find}
use Rattle.std.proofs.Common.{is_some, IsTrue, if◌then◌else◌}
use Rattle.std.specs.Prelude.{slice_index_or}
use Rattle.std.specs.Option.{option_map_or}
use Rattle.std.proofs.lemmas.Bool.{and_parts, eqb-true}
use Rattle.gh_base.specs.CapWord.{filled_state, mark_number, state_of}
use Rattle.gh_base.specs.Kind.{kind_number}
use Rattle.gh_base.specs.declared.cap_word.CapWord.{CapWord}
use Rattle.gh_base.specs.declared.ids.Serial.{Serial}
use Rattle.gh_base.specs.declared.kind.Kind.TheVariants as kind
use Rattle.gh_cspace.specs.Cspace.{is_empty, is_valid, word_at}
use Rattle.gh_invariant.proofs.Counting.{found_all, found_passes}
use Rattle.gh_invariant.proofs.SlotsFit.{SlotParts, slot_parts}
use Rattle.gh_invariant.specs.Lives.{lives_as, slot_fits}
use Rattle.gh_invariant.specs.Valid.{IsValidWithin}
use Rattle.gh_model.specs.Rows.{fills}
use Rattle.gh_model.specs.Word.{is_slot, setting}
use Rattle.gh_model.specs.declared.rows.CapabilityRow.{CapabilityRow}
use Rattle.gh_model.specs.declared.state.State.{State}
use Rattle.gh_parts.specs.Making.{HasRoom}
use Rattle.gh_parts.specs.Slots.{IsFilledSlot, granted_by, is_home, name_in, names_of, no_serial, word_in, words_of}
use Rattle.gh_parts.specs.Stands.{ShowsFilled, ShowsSlot, Stands}
use Rattle.gh_parts.specs.declared.parts.Parts.{Parts}
use Rattle.gh_parts.specs.declared.slots.Slots.{Slots}
use Rattle.gh_parts.proofs.Living.{There, there}
use Rattle.gh_parts.proofs.SlotNumbers.{slot_within}
use Rattle.gh_parts.proofs.StandsCapabilities.{number_small}
use Rattle.gh_parts.proofs.WordLemmas.{Fit, filled_word_state, kind_fits, mark_fits, rights_small}

-- the object of a capability, where it is valid
abbrev pub named : CapabilityRow → Option Serial
named row = if row.valid then Some row.serial else None

-- a filled slot's state isn't empty
pub full : (valid : Bool) → is_empty (filled_state valid) ≡ false
full true = refl
full false = refl

-- and grants where the capability is valid
pub grants : (valid : Bool) → is_valid (filled_state valid) ≡ valid
grants true = refl
grants false = refl

-- a filled slot of a valid state that the parts stand for
pub record IsFilling (parts : Parts) (s : State) (cspace slot : ℕ) : Type 0 where
  pub stand : Stands parts s
  pub valid : IsValidWithin s
  pub room : HasRoom s
  pub fill : IsTrue (is_some (find (fills cspace slot) s.caps))

module _ (parts : Parts) (s : State) (cspace slot : ℕ) (at : IsFilling parts s cspace slot) where
  -- the row in the slot
  pub row_there : There (find (fills cspace slot) s.caps)
  row_there = there (find (fills cspace slot) s.caps) at.fill

  abbrev row : CapabilityRow
  row = row_there.it

  parts_of : SlotParts s.next_serial s.objects row
  parts_of =
      slot_parts s.next_serial s.objects row
      (found_all (fills cspace slot) (slot_fits s.next_serial s.objects) s.caps row at.valid.slots.filled row_there.is)

  place : (row.cspace.0 ≡ cspace) × (row.slot ≡ slot)
  place =
      let both : ((row.cspace.0 == cspace) ≡ true) × ((row.slot == slot) ≡ true) =
      and_parts _ _ (found_passes (fills cspace slot) s.caps row row_there.is) in
      (eqb-true row.cspace.0 cspace both.0, eqb-true row.slot slot both.1)

  -- it is of this capability space
  pub row_home : row.cspace.0 ≡ cspace
  row_home = place.0

  pub slot_is : IsTrue (is_slot slot)
  slot_is = subst (λ (n : ℕ). IsTrue (is_slot n)) place.1 parts_of.slot

  -- which is there
  pub space_there : There (find (is_home cspace) parts.journal.slots)
  space_there =
      there (find (is_home cspace) parts.journal.slots)
      (at.stand.slots.homes cspace
      ∙ subst (λ (n : ℕ). lives_as s.objects n kind.Cspace ≡ true) place.0 parts_of.home)

  -- the word of the slot
  pub shown : ShowsFilled parts.table.headers (word_in parts.journal.slots cspace slot)
      (name_in parts.journal.slots cspace slot) row (setting s cspace slot)
  shown =
      subst (λ (found : Option CapabilityRow). ShowsSlot parts.table.headers (word_in parts.journal.slots cspace slot)
      (name_in parts.journal.slots cspace slot) found (setting s cspace slot))
      row_there.is (at.stand.slots.words cspace slot slot_is)

  pub fit : Fit (kind_number row.kind) (mark_number row.master) shown.object row.rights.0 (setting s cspace slot)
  fit = record {
    kind_fits = kind_fits row.kind;
    master_fits = mark_fits row.master;
    object_fits = shown.within;
    rights_fit = rights_small row.kind row.rights.0 parts_of.rights;
    entry_fits = number_small s cspace slot at.valid at.room;
  }

  word_state : state_of (word_in parts.journal.slots cspace slot).0 ≡ filled_state row.valid
  word_state =
      ap state_of shown.bits
      ∙ filled_word_state row.valid row.kind row.master shown.object row.rights.0 (setting s cspace slot) fit

  -- it fills the slot
  pub filled_slot : IsFilledSlot (words_of parts.journal.slots cspace) slot
  filled_slot = record {
    within = slot_within slot slot_is;
    filled = ap is_empty word_state ∙ full row.valid;
  }

  pub words_there : words_of parts.journal.slots cspace ≡ space_there.it.words
  words_there = ap (λ (o : Option Slots). option_map_or (λ (slots : Slots). slots.words) o []) space_there.is

  pub names_there : names_of parts.journal.slots cspace ≡ space_there.it.names
  names_there = ap (λ (o : Option Slots). option_map_or (λ (slots : Slots). slots.names) o []) space_there.is

  -- and what it grants is the row's object, where the capability is valid
  pub granted_is : granted_by slot (find (is_home cspace) parts.journal.slots) ≡ named row
  granted_is =
      ap (granted_by slot) space_there.is
      ∙ ap (λ (b : Bool). if b then Some (slice_index_or space_there.it.names (slot - 1) no_serial) else None)
      (ap (λ (words : List CapWord). is_valid (state_of (word_at words slot).0)) (sym words_there)
      ∙ ap is_valid word_state ∙ grants row.valid)
      ∙ ap (λ (name : Serial). if row.valid then Some name else None)
      (ap (λ (names : List Serial). slice_index_or names (slot - 1) no_serial) (sym names_there) ∙ shown.named)
