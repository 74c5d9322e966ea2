-- A slot that no change sets keeps its word, and one that a change sets has the entry's number.
use Rattle.std.proofs.Common.{◌≡◌, ◌+◌, ◌∙◌, ◌&&◌, ◌==◌, ℕ, true, false, List, [], ◌∷◌, refl, subst, ap, arith, Option, Some, None, IsTrue, find, option_map, if◌then◌else◌}
use Rattle.std.specs.List.{list_all}
use Rattle.std.proofs.lemmas.Bool.{and_parts, not-true, eqb-true}
use Rattle.std.proofs.lemmas.Bool.Decides.{nat_tests}
use Rattle.gh_base.specs.declared.ids.Serial.{Serial}
use Rattle.gh_model.specs.Changes.{changed, changed_all, as_revoked, is_in_cspace, is_set_in}
use Rattle.gh_model.specs.Rows.{fills, tells_setting}
use Rattle.gh_model.specs.Word.{setting, setting_number, word_at, is_slot}
use Rattle.gh_model.specs.declared.change.Change.{Change}
use Rattle.gh_model.specs.declared.change.Change.TheVariants.{PutCapability, DropCapability, RevokeCapability, AddObject, SetStage, Retire, Reclaim, GiveQuota, AddExtent, MovePages, PutMapping, DropMapping, SetBell, ConfigureQueue, PutMessage, DropMessage, EmptyQueue, Exit, Ring, SetPages, AddPartition, AddRoot, SetRoom, FillSlot, AddCpu, AddLink}
use Rattle.gh_model.specs.declared.rows.CapabilityRow.{CapabilityRow}
use Rattle.gh_model.specs.declared.rows.SetAtRow.{SetAtRow}
use Rattle.gh_model.specs.declared.state.State.{State}
use Rattle.gh_model.specs.declared.word.Word.{Word}
use Rattle.gh_invariant.specs.Effects.{sets_slot, leaves, leaves_in}
use Rattle.gh_invariant.specs.Premises.{MayChange}
use Rattle.gh_invariant.proofs.Counting.{find_push_other, find_push_new}
use Rattle.gh_model.proofs.ChangedRows.{find_changed}
use Rattle.gh_invariant.proofs.ChangedRow.{find_past_change}
use Rattle.gh_invariant.proofs.RowsLeft.{find_left, find_gone}
use Rattle.gh_invariant.proofs.Settings.{setting_is, setting_other}

-- a slot has the capability and the setting that it had
pub record SlotStays (old new : State) (cspace slot : ℕ) : Type 0 where
  pub capability : find (fills cspace slot) new.caps ≡ find (fills cspace slot) old.caps
  pub setting : find (tells_setting cspace slot) new.set_at ≡ find (tells_setting cspace slot) old.set_at

module _ (s : State) (cspace slot : ℕ) where
  put_leaves : (row : CapabilityRow) → ((row.cspace.0 == cspace) && (row.slot == slot)) ≡ false
      → SlotStays s (changed s (PutCapability row)) cspace slot
  put_leaves row other = record {
    capability = find_push_other (fills cspace slot) s.caps row other;
    setting = setting_other s.set_at row.cspace row.slot (s.entries + 1) cspace slot other;
  }

  drop_leaves : (home : Serial) (n : ℕ) → ((home.0 == cspace) && (n == slot)) ≡ false
      → SlotStays s (changed s (DropCapability home n)) cspace slot
  drop_leaves home n other = record {
    capability = find_left (fills cspace slot) (fills home.0 n) s.caps (λ row here. grind (arith, nat_tests));
    setting = setting_other s.set_at home n (s.entries + 1) cspace slot other;
  }

  revoke_leaves : (home : Serial) (n : ℕ) → ((home.0 == cspace) && (n == slot)) ≡ false
      → SlotStays s (changed s (RevokeCapability home n)) cspace slot
  revoke_leaves home n other = record {
    capability = find_past_change (fills cspace slot) (fills home.0 n) as_revoked s.caps (λ row here. grind (arith, nat_tests)) (λ row here. grind (arith, nat_tests));
    setting = setting_other s.set_at home n (s.entries + 1) cspace slot other;
  }

  reclaim_leaves : (object : Serial) → (object.0 == cspace) ≡ false
      → SlotStays s (changed s (Reclaim object)) cspace slot
  reclaim_leaves object other = record {
    capability = find_left (fills cspace slot) (is_in_cspace object.0) s.caps (λ row here. grind (arith, nat_tests));
    setting = find_left (tells_setting cspace slot) (is_set_in object.0) s.set_at (λ row here. grind (arith, nat_tests));
  }

  stays : SlotStays s s cspace slot
  stays = record { capability = refl; setting = refl }

  -- a change that leaves a slot
  pub slot_stays : (change : Change) → IsTrue (leaves cspace slot change)
      → SlotStays s (changed s change) cspace slot
  slot_stays (PutCapability row) left = put_leaves row (not-true _ left)
  slot_stays (DropCapability home n) left = drop_leaves home n (not-true _ left)
  slot_stays (RevokeCapability home n) left = revoke_leaves home n (not-true _ left)
  slot_stays (AddObject row) left = record { capability = refl; setting = refl }
  slot_stays (SetStage object stage) left = record { capability = refl; setting = refl }
  slot_stays (Retire object seen) left = record { capability = refl; setting = refl }
  slot_stays (Reclaim object) left = reclaim_leaves object (not-true _ left)
  slot_stays (GiveQuota partition quota) left = record { capability = refl; setting = refl }
  slot_stays (AddExtent row) left = record { capability = refl; setting = refl }
  slot_stays (MovePages first count holder) left = record { capability = refl; setting = refl }
  slot_stays (PutMapping row) left = record { capability = refl; setting = refl }
  slot_stays (DropMapping row) left = record { capability = refl; setting = refl }
  slot_stays (SetBell row) left = record { capability = refl; setting = refl }
  slot_stays (ConfigureQueue queue depth size cost) left =
      record { capability = refl; setting = refl }
  slot_stays (PutMessage queue message) left = record { capability = refl; setting = refl }
  slot_stays (DropMessage queue) left = record { capability = refl; setting = refl }
  slot_stays (EmptyQueue queue) left = record { capability = refl; setting = refl }
  slot_stays (Exit cpu) left = record { capability = refl; setting = refl }
  slot_stays Ring left = record { capability = refl; setting = refl }
  slot_stays (SetPages count) left = record { capability = refl; setting = refl }
  slot_stays (AddPartition quota) left = record { capability = refl; setting = refl }
  slot_stays (AddRoot row) left = record { capability = refl; setting = refl }
  slot_stays (SetRoom queue depth size) left = record { capability = refl; setting = refl }
  slot_stays (FillSlot row) left =
      record { capability = find_push_other (fills cspace slot) s.caps row (not-true _ left); setting = refl }
  slot_stays (AddCpu row) left = record { capability = refl; setting = refl }
  slot_stays (AddLink row) left = record { capability = refl; setting = refl }

-- changes that leave a slot
pub slot_stays_all : (s : State) (changes : List Change) (cspace slot : ℕ)
    → IsTrue (list_all (leaves cspace slot) changes)
    → SlotStays s (changed_all s changes) cspace slot
slot_stays_all s [] cspace slot left = record { capability = refl; setting = refl }
slot_stays_all s (change ∷ changes) cspace slot left =
    let parts : (leaves cspace slot change ≡ true) × (list_all (leaves cspace slot) changes ≡ true) =
    and_parts _ _ left in
    let first : SlotStays s (changed s change) cspace slot =
    slot_stays s cspace slot change parts.0 in
    let others : SlotStays (changed s change) (changed_all (changed s change) changes) cspace slot =
    slot_stays_all (changed s change) changes cspace slot parts.1 in
    record { capability = others.capability ∙ first.capability; setting = others.setting ∙ first.setting }

-- the word of a slot with this capability and setting
abbrev pub word_of : ℕ → Option CapabilityRow → Option SetAtRow → Word
word_of slot row set =
    if is_slot slot then record { row = row; set_at = setting_number set } else record { row = None; set_at = 0 }

module _ (old new : State) (cspace slot : ℕ) (kept : SlotStays old new cspace slot) where
  pub word_kept : word_at new cspace slot ≡ word_at old cspace slot
  word_kept =
      ap (λ (row : Option CapabilityRow). word_of slot row (find (tells_setting cspace slot) new.set_at)) kept.capability
      ∙ ap (word_of slot (find (fills cspace slot) old.caps)) kept.setting

  pub setting_kept : setting new cspace slot ≡ setting old cspace slot
  setting_kept = ap setting_number kept.setting

-- the slot that a change sets

-- a slot has this capability, and the number of the next entry
pub record SlotSet (s new : State) (cspace slot : ℕ) (row : Option CapabilityRow) : Type 0 where
  pub capability : find (fills cspace slot) new.caps ≡ row
  pub setting : setting new cspace slot ≡ s.entries + 1

-- the slot's place is that of the change
moved_place : (s new : State) (row : Option CapabilityRow) (home cspace n slot : ℕ)
    → ((home == cspace) && (n == slot)) ≡ true → SlotSet s new home n row
    → SlotSet s new cspace slot row
moved_place s new row home cspace n slot same set =
    let parts : ((home == cspace) ≡ true) × ((n == slot) ≡ true) = and_parts _ _ same in
    subst (λ (c : ℕ). SlotSet s new c slot row) (eqb-true home cspace parts.0) (subst (λ (m : ℕ). SlotSet s new home m row) (eqb-true n slot parts.1) set)

module _ (s : State) where
  put_sets : (row : CapabilityRow) → find (fills row.cspace.0 row.slot) s.caps ≡ None
      → SlotSet s (changed s (PutCapability row)) row.cspace.0 row.slot (Some row)
  put_sets row free = record {
    capability = find_push_new (fills row.cspace.0 row.slot) s.caps row free (grind (arith, nat_tests));
    setting = setting_is s.set_at row.cspace row.slot (s.entries + 1);
  }

  drop_sets : (home : Serial) (n : ℕ) → SlotSet s (changed s (DropCapability home n)) home.0 n None
  drop_sets home n = record {
    capability = find_gone (fills home.0 n) (fills home.0 n) s.caps (λ row fails. fails);
    setting = setting_is s.set_at home n (s.entries + 1);
  }

  revoke_sets : (home : Serial) (n : ℕ)
      → SlotSet s (changed s (RevokeCapability home n)) home.0 n (option_map as_revoked (find (fills home.0 n) s.caps))
  revoke_sets home n = record {
    capability = find_changed (fills home.0 n) as_revoked s.caps (λ row. refl);
    setting = setting_is s.set_at home n (s.entries + 1);
  }

  -- the slot that a change sets has what the change tells, and the number of the next entry
  pub slot_set : (change : Change) (cspace slot : ℕ) → MayChange s change
      → IsTrue (sets_slot cspace slot change)
      → SlotSet s (changed s change) cspace slot (leaves_in s change)
  slot_set (PutCapability row) cspace slot may is =
      moved_place s _ _ _ _ _ _ is (put_sets row may.free)
  slot_set (DropCapability home n) cspace slot may is =
      moved_place s _ _ _ _ _ _ is (drop_sets home n)
  slot_set (RevokeCapability home n) cspace slot may is =
      moved_place s _ _ _ _ _ _ is (revoke_sets home n)
  slot_set _ cspace slot may is = absurd (let never : ⊥ = cc in never)

-- where it is a slot, its word is of both
pub word_set : (s new : State) (cspace slot : ℕ) (row : Option CapabilityRow)
    → IsTrue (is_slot slot) → SlotSet s new cspace slot row
    → word_at new cspace slot ≡ record { row = row; set_at = s.entries + 1 }
word_set s new cspace slot row is set =
    rw is (ap (λ (found : Option CapabilityRow). word_with found (setting new cspace slot)) set.capability ∙ ap (word_with row) set.setting)
  where
    word_with : Option CapabilityRow → ℕ → Word
    word_with found number = record { row = found; set_at = number }
