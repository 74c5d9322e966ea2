-- In a valid state the word of any number has what fills its slot: no capability stands where no
-- slot is.
use Rattle.std.proofs.Common.{◌≡◌, ◌==◌, ℕ, Bool, true, false, refl, subst, IsTrue, Option, Some}
use Rattle.std.proofs.Common.{None, find, if◌then◌else◌}
use Rattle.std.proofs.lemmas.Bool.{and_parts, eqb-true}
use Rattle.gh_invariant.proofs.Counting.{found_all, found_passes}
use Rattle.gh_invariant.proofs.SlotsFit.{SlotParts, slot_parts}
use Rattle.gh_invariant.specs.Lives.{slot_fits}
use Rattle.gh_invariant.specs.Valid.{IsValidWithin}
use Rattle.gh_model.specs.Rows.{fills}
use Rattle.gh_model.specs.Word.{is_slot, setting, word_at}
use Rattle.gh_model.specs.declared.rows.CapabilityRow.{CapabilityRow}
use Rattle.gh_model.specs.declared.state.State.{State}
use Rattle.gh_model.specs.declared.word.Word.{Word}

module _ (s : State) (valid : IsValidWithin s) (cspace slot : ℕ) where
  -- the number of a capability that is found is that of a slot
  found_slot : (row : CapabilityRow) → find (fills cspace slot) s.caps ≡ Some row → IsTrue (is_slot slot)
  found_slot row found =
      let fits : SlotParts s.next_serial s.objects row =
      slot_parts s.next_serial s.objects row
      (found_all (fills cspace slot) (slot_fits s.next_serial s.objects) s.caps row valid.slots.filled found) in
      let here = and_parts (row.cspace.0 == cspace) (row.slot == slot) (found_passes (fills cspace slot) s.caps row found) in
      subst (λ (n : ℕ). IsTrue (is_slot n)) (eqb-true row.slot slot here.1) fits.slot

  by_slot : (named : Bool) → is_slot slot ≡ named → (found : Option CapabilityRow)
      → find (fills cspace slot) s.caps ≡ found
      → (let word : Word = if named then record { row = found; set_at = setting s cspace slot }
      else record { row = None; set_at = 0 } in word).row ≡ found
  by_slot true is found found_is = refl
  by_slot false is None found_is = refl
  by_slot false is (Some row) found_is =
      let named : is_slot slot ≡ true = found_slot row found_is in absurd (let never : ⊥ = cc in never)

  pub word_row : (word_at s cspace slot).row ≡ find (fills cspace slot) s.caps
  word_row = by_slot (is_slot slot) refl (find (fills cspace slot) s.caps) refl
