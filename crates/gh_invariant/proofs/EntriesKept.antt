-- A state that is valid between two entries is so behind the next one, once that is counted.
use Rattle.std.proofs.Common.{◌≡◌, ◌+◌, ◌≤◌, ◌&&◌, ℕ, Bool, true, false, List, [], ◌∷◌, ◌++◌, refl, subst, sym, arith, IsTrue, Option, Some, None, find, is_some, if◌then◌else◌}
use Rattle.std.specs.List.{list_all}
use Rattle.std.proofs.lemmas.Bool.{and_parts, leb-true, le-leb, eqb-true}
use Rattle.gh_base.specs.declared.ids.Serial.{Serial}
use Rattle.gh_model.specs.Act.{counted}
use Rattle.gh_model.specs.Changes.{changed, changed_all}
use Rattle.gh_model.specs.History.{numbered, took, parted, retired, reclaimed, may_part, is_unretired, is_retired}
use Rattle.gh_model.specs.References.{is_doomed}
use Rattle.gh_model.specs.Rows.{fills, object_row}
use Rattle.gh_model.specs.declared.change.Change.TheVariants as change
use Rattle.gh_model.specs.declared.rows.CapabilityRow.{CapabilityRow}
use Rattle.gh_model.specs.declared.rows.ObjectRow.{ObjectRow}
use Rattle.gh_model.specs.declared.rows.SetAtRow.{SetAtRow}
use Rattle.gh_model.specs.declared.rows.TakenSlot.{TakenSlot}
use Rattle.gh_model.specs.declared.state.State.{State}
use Rattle.gh_model.proofs.RoomLemmas.{changes_count}
use Rattle.gh_invariant.specs.Lives.{setting_fits}
use Rattle.gh_invariant.specs.Valid.{IsValid, IsValidTo, IsValidWithin}
use Rattle.gh_invariant.proofs.Counting.{all_by}
use Rattle.gh_invariant.proofs.SlotsFit.{SettingParts, setting_parts, setting_from}
use Rattle.gh_invariant.proofs.ValidKept.{valid_kept}
use Rattle.gh_invariant.proofs.ChangesInOrder.{valid_all}
use Rattle.gh_invariant.specs.Premises.{MayChangeAll}
use Rattle.gh_model.specs.declared.change.Change.{Change}

-- settings up to an entry are up to a later one
settings_more : (last later : ℕ) (objects : List ObjectRow) (row : SetAtRow) → last ≤ later
    → IsTrue (setting_fits last objects row) → IsTrue (setting_fits later objects row)
settings_more last later objects row more fits =
    let parts : SettingParts last objects row = setting_parts last objects row fits in
    let within : row.number ≤ last = leb-true row.number last parts.within in
    setting_from later objects row (record { home = parts.home; slot = parts.slot; some = parts.some; within = le-leb row.number later (omega arith) })

-- where the settings fit up to another entry, a state is valid up to that
valid_to : (last other : ℕ) (s : State)
    → IsTrue (list_all (setting_fits other s.objects) s.set_at) → IsValidTo last s
    → IsValidTo other s
valid_to last other s set valid = record {
  objects = valid.objects;
  slots = record {
    once = valid.slots.once;
    masters = valid.slots.masters;
    filled = valid.slots.filled;
    set_once = valid.slots.set_once;
    set = set;
  };
  rows = valid.rows;
  units = valid.units;
  pages = valid.pages;
  mappings = valid.mappings;
  cpus = valid.cpus;
  queues = valid.queues;
  retired = valid.retired;
  parcels = valid.parcels;
}

-- as up to a later one
pub valid_more : (last later : ℕ) (s : State) → last ≤ later → IsValidTo last s → IsValidTo later s
valid_more last later s more valid =
    valid_to last later s
    (all_by (setting_fits last s.objects) (setting_fits later s.objects) s.set_at
    (λ row fits. settings_more last later s.objects row more fits) valid.slots.set) valid

-- or up to any, where no slot was set
pub valid_unset : (last other : ℕ) (s : State) → s.set_at ≡ [] → IsValidTo last s
    → IsValidTo other s
valid_unset last other s unset valid =
    valid_to last other s
    (subst (λ (rows : List SetAtRow). IsTrue (list_all (setting_fits other s.objects) rows))
    (sym unset) refl) valid

pub begins : (s : State) → IsValid s → IsValidWithin s
begins s valid = valid_more s.entries (s.entries + 1) s (omega arith) valid

-- another number of entries, and other slots taken, leave a state as valid as it was
log_valid : (last : ℕ) (s : State) (entries : ℕ) (taken : List TakenSlot) → IsValidTo last s
    → IsValidTo last (record s { entries = entries; taken = taken })
log_valid last s entries taken valid = record {
  objects = valid.objects;
  slots = valid.slots;
  rows = valid.rows;
  units = valid.units;
  pages = valid.pages;
  mappings = valid.mappings;
  cpus = valid.cpus;
  queues = valid.queues;
  retired = valid.retired;
  parcels = valid.parcels;
}

-- the entry is counted
pub counted_valid : (s : State) → IsValidWithin s → IsValid (counted s)
counted_valid s valid = log_valid (s.entries + 1) s (s.entries + 1) [] valid

-- or only its number
pub numbered_valid : (s : State) → IsValidWithin s → IsValid (numbered s)
numbered_valid s valid = log_valid (s.entries + 1) s (s.entries + 1) s.taken valid

took_valid : (s : State) (space : Serial) (slot : ℕ) → IsValidWithin s
    → IsValidWithin (took s space slot)
took_valid s space slot valid =
    log_valid (s.entries + 1) s s.entries (s.taken ++ record { cspace = space; slot = slot } ∷ []) valid

-- what may be made of two states is valid where both are
either_valid : (b : Bool) (new old : State) → (b ≡ true → IsValid new) → IsValid old
    → IsValid (if b then new else old)
either_valid true new old then_new is = then_new refl
either_valid false new old then_new is = is

pub part_filled : (found : Option CapabilityRow) → may_part found ≡ true → IsTrue (is_some found)
part_filled None may = absurd (let never : ⊥ = cc in never)
part_filled (Some row) may = refl

module _ (s : State) (valid : IsValid s) where
  -- an entry that isn't allowed
  pub unmade_valid : IsValid (numbered s)
  unmade_valid = numbered_valid s (begins s valid)

  -- a part of a revoke
  pub parted_valid : (space : Serial) (slot : ℕ) → IsValid (parted s space slot)
  parted_valid space slot =
      either_valid (may_part (find (fills space.0 slot) s.caps)) (numbered (took (changed s (change.RevokeCapability space slot)) space slot)) (numbered s)
      (λ may. numbered_valid (took (changed s (change.RevokeCapability space slot)) space slot) (took_valid (changed s (change.RevokeCapability space slot)) space slot
      (valid_kept (s.entries + 1) s (change.RevokeCapability space slot) (omega arith) (begins s valid) (part_filled (find (fills space.0 slot) s.caps) may)))) unmade_valid

  -- a retirement
  pub retired_valid : (serial : Serial) (seen : List ℕ) → IsValid (retired s serial seen)
  retired_valid serial seen =
      either_valid (is_doomed s serial.0 && is_unretired (object_row s serial.0)) (counted (changed s (change.Retire serial seen))) (numbered s)
      (λ may. counted_valid (changed s (change.Retire serial seen)) (valid_kept (s.entries + 1) s (change.Retire serial seen) (omega arith) (begins s valid)
      (record { lives = (and_parts _ _ may).1; doomed = eqb-true _ 0 (and_parts _ _ may).0 }))) unmade_valid

  -- a reclaim
  pub reclaimed_valid : (serial : Serial) → IsValid (reclaimed s serial)
  reclaimed_valid serial =
      either_valid (is_doomed s serial.0 && is_retired (object_row s serial.0)) (counted (changed s (change.Reclaim serial))) (numbered s)
      (λ may. counted_valid (changed s (change.Reclaim serial)) (valid_kept (s.entries + 1) s (change.Reclaim serial) (omega arith) (begins s valid)
      (record { retired = (and_parts _ _ may).1; doomed = eqb-true _ 0 (and_parts _ _ may).0 }))) unmade_valid

  -- the changes of an act
  pub made_valid : (changes : List Change) → MayChangeAll s changes
      → IsValid (counted (changed_all s changes))
  made_valid changes may =
      counted_valid (changed_all s changes)
      (subst (λ (n : ℕ). IsValidTo (n + 1) (changed_all s changes)) (sym (changes_count s changes).entries)
      (valid_all (s.entries + 1) s changes (omega arith) (begins s valid) may))
