-- Each change that may be made leaves slots and settings fit.
use Rattle.std.proofs.Common.{◌≡◌, ◌+◌, ◌<◌, ◌∙◌, ℕ, refl, arith, Option, Some, None, IsTrue, find, is_some, ◌++◌, ◌∷◌, []}
use Rattle.std.proofs.lemmas.Bool.{lt-ltb}
use Rattle.gh_base.specs.declared.ids.Serial.{Serial}
use Rattle.gh_base.specs.declared.kind.Kind.TheVariants as kind
use Rattle.gh_model.specs.Changes.{boot_object, changed, with_stage, with_counters, with_cost}
use Rattle.gh_model.specs.Rows.{change_row, fills, is_object}
use Rattle.gh_model.specs.declared.change.Change.{Change}
use Rattle.gh_model.specs.declared.change.Change.TheVariants.{PutCapability, DropCapability, RevokeCapability, AddObject, SetStage, Retire, Reclaim, GiveQuota, AddExtent, MovePages, PutMapping, DropMapping, SetBell, ConfigureQueue, PutMessage, DropMessage, EmptyQueue, Exit, Ring, SetPages, AddPartition, AddRoot, SetRoom, FillSlot, AddCpu, AddLink}
use Rattle.gh_model.specs.declared.rows.CapabilityRow.{CapabilityRow}
use Rattle.gh_model.specs.declared.rows.ObjectRow.{ObjectRow}
use Rattle.gh_model.specs.declared.state.State.{State}
use Rattle.gh_invariant.specs.Lives.{slot_fits}
use Rattle.gh_invariant.specs.Premises.{MayChange, MayPut, IsFilled}
use Rattle.gh_invariant.specs.Valid.{IsValidTo, SlotsFit}
use Rattle.gh_invariant.proofs.Living.{lives_some, lives_made}
use Rattle.gh_invariant.proofs.ObjectsFit.{KeepsPlace, lives_beside, lives_kept}
use Rattle.gh_invariant.proofs.PartsKept.{stage_keeps, counters_keep, cost_keeps}
use Rattle.gh_invariant.proofs.ReferencesLaw.{unreferenced}
use Rattle.gh_invariant.proofs.SlotsFit.{fill_keeps_slots, slot_from, slots_live_on, put_keeps_slots, drop_keeps_slots, revoke_keeps_slots, reclaim_keeps_slots}

-- slots once a change is made
abbrev pub SlotsStay : ℕ → State → Change → Type 0
SlotsStay last s change =
    SlotsFit (changed s change).next_serial last (changed s change).objects (changed s change).caps (changed s change).set_at

module _ (last : ℕ) (s : State) (valid : IsValidTo last s) where
  -- a capability that may be put names what lives
  put_fits : (row : CapabilityRow) → MayPut s row → IsTrue (slot_fits s.next_serial s.objects row)
  put_fits row may = slot_from s.next_serial s.objects row (record {
    home = may.home;
    slot = may.slot;
    rights = may.rights;
    some = lt-ltb 0 row.serial.0 (lives_some s.objects s.next_serial valid.objects row.serial.0 row.kind may.object);
    made = lt-ltb row.serial.0 s.next_serial (lives_made s.objects s.next_serial valid.objects row.serial.0 row.kind may.object);
    object = rw may.valid may.object;
  })

  -- a slot that is filled has a row
  filled_row : {P : Type 0} (found : Option CapabilityRow) → IsTrue (is_some found)
      → ((row : CapabilityRow) → found ≡ Some row → P) → P
  filled_row None filled then_is = absurd (let never : ⊥ = cc in never)
  filled_row (Some row) filled then_is = then_is row refl

  -- objects whose rows change in place live on
  slots_in_place : (object : ℕ) (change : ObjectRow → ObjectRow) → KeepsPlace change
      → SlotsFit s.next_serial last (change_row (is_object object) change s.objects) s.caps s.set_at
  slots_in_place object change keeps =
      slots_live_on s.next_serial s.next_serial last s.objects (change_row (is_object object) change s.objects) s.caps s.set_at (omega arith)
      (λ serial k lives. lives_kept (is_object object) change keeps s.objects serial k ∙ lives) valid.slots

  module _ (room : s.entries < last) where
    put_stays : (row : CapabilityRow) → MayPut s row → SlotsStay last s (PutCapability row)
    put_stays row may =
        put_keeps_slots s.next_serial last s.objects s.caps s.set_at valid.slots (s.entries + 1) (omega arith) (omega (arith, room)) row may.free may.master (put_fits row may)

    drop_stays : (cspace : Serial) (slot : ℕ) → IsFilled s cspace slot
        → SlotsStay last s (DropCapability cspace slot)
    drop_stays cspace slot filled =
        filled_row (find (fills cspace.0 slot) s.caps) filled
        (λ row found. drop_keeps_slots s.next_serial last s.objects s.caps s.set_at valid.slots (s.entries + 1) (omega arith) (omega (arith, room)) cspace slot row found)

    revoke_stays : (cspace : Serial) (slot : ℕ) → IsFilled s cspace slot
        → SlotsStay last s (RevokeCapability cspace slot)
    revoke_stays cspace slot filled =
        filled_row (find (fills cspace.0 slot) s.caps) filled
        (λ row found. revoke_keeps_slots s.next_serial last s.objects s.caps s.set_at valid.slots (s.entries + 1) (omega arith) (omega (arith, room)) cspace slot row found)

    -- slots and settings
    pub slots_kept : (change : Change) → MayChange s change → SlotsStay last s change
    slots_kept (PutCapability row) may = put_stays row may
    slots_kept (DropCapability cspace slot) may = drop_stays cspace slot may
    slots_kept (RevokeCapability cspace slot) may = revoke_stays cspace slot may
    slots_kept (AddObject row) may =
        slots_live_on s.next_serial (s.next_serial + 1) last s.objects (s.objects ++ row ∷ []) s.caps s.set_at (omega arith)
        (λ serial k lives. lives_beside s.objects row serial k lives) valid.slots
    slots_kept (SetStage object stage) may =
        slots_in_place object.0 (with_stage stage) (stage_keeps stage)
    slots_kept (Retire object seen) may =
        slots_in_place object.0 (with_counters seen) (counters_keep seen)
    slots_kept (Reclaim object) may =
        reclaim_keeps_slots s.next_serial last s.objects s.caps s.set_at valid.slots object.0 (unreferenced s object.0 may.doomed).capabilities
    slots_kept (GiveQuota partition quota) may = valid.slots
    slots_kept (AddExtent row) may = valid.slots
    slots_kept (MovePages first count holder) may = valid.slots
    slots_kept (PutMapping row) may = valid.slots
    slots_kept (DropMapping row) may = valid.slots
    slots_kept (SetBell row) may = valid.slots
    slots_kept (ConfigureQueue queue depth size cost) may =
        slots_in_place queue.0 (with_cost cost) (cost_keeps cost)
    slots_kept (PutMessage queue message) may = valid.slots
    slots_kept (DropMessage queue) may = valid.slots
    slots_kept (EmptyQueue queue) may = valid.slots
    slots_kept (Exit cpu) may = valid.slots
    slots_kept Ring may = valid.slots
    slots_kept (SetPages count) may = valid.slots
    slots_kept (AddPartition quota) may =
        slots_live_on s.next_serial (s.next_serial + 1) last s.objects (changed s (AddPartition quota)).objects s.caps s.set_at (omega arith)
        (lives_beside s.objects (boot_object s kind.Partition s.next_serial 1)) valid.slots
    slots_kept (AddRoot row) may = valid.slots
    slots_kept (SetRoom queue depth size) may = valid.slots
    slots_kept (FillSlot row) may =
        fill_keeps_slots s.next_serial last s.objects s.caps s.set_at valid.slots row may.free may.master (put_fits row may)
    slots_kept (AddCpu row) may = valid.slots
    slots_kept (AddLink row) may = valid.slots
