-- Each change leaves slots with one capability and one setting at most, and what they name there.
use Rattle.std.proofs.Common.{◌≡◌, ◌+◌, ◌≤◌, ◌<◌, ◌∙◌, ◌&&◌, ◌||◌, ◌==◌, nat_lt, nat_le, ℕ, Bool, true, false, not, List, [], ◌∷◌, ◌++◌, refl, subst, sym, arith, Some, None, IsTrue, find}
use Rattle.std.specs.Prelude.{count_by}
use Rattle.std.specs.List.{list_all}
use Rattle.std.proofs.lemmas.Bool.{and_parts, and_from, lt-ltb, le-leb, eqb-true, ltb-true}
use Rattle.std.proofs.lemmas.Bool.Decides.{nat_tests}
use Rattle.gh_base.specs.declared.ids.Serial.{Serial}
use Rattle.gh_base.specs.declared.kind.Kind.{Kind}
use Rattle.gh_base.specs.declared.kind.Kind.TheVariants as kind
use Rattle.gh_model.specs.Boot.{is_master_of}
use Rattle.gh_model.specs.QueueCalls.{one_if}
use Rattle.gh_model.specs.Changes.{without, as_revoked, with_setting, with_number, is_in_cspace, is_set_in}
use Rattle.gh_model.specs.References.{is_capability_of}
use Rattle.gh_model.specs.Rows.{change_row, fills, is_object, tells_setting}
use Rattle.gh_model.specs.Word.{is_slot}
use Rattle.gh_model.specs.declared.rows.ObjectRow.{ObjectRow}
use Rattle.gh_model.specs.declared.rows.CapabilityRow.{CapabilityRow}
use Rattle.gh_model.specs.declared.rows.SetAtRow.{SetAtRow}
use Rattle.gh_invariant.specs.Lives.{has_kind_rights, lives_as, slot_fits, setting_fits}
use Rattle.gh_invariant.specs.Valid.{SlotsFit}
use Rattle.gh_invariant.proofs.Counting.{count_push, count_same, count_unfound, all_push, all_by, found_all, found_passes}
use Rattle.gh_invariant.proofs.ChangedRow.{count_change_kept, all_change}
use Rattle.gh_invariant.proofs.RowsLeft.{count_fewer, all_left, all_without}
use Rattle.gh_invariant.proofs.RowsTested.{all_uncounted}
use Rattle.gh_invariant.proofs.ObjectsFit.{lives_left}
use Rattle.gh_invariant.proofs.Settings.{each_setting, setting_once}

-- what a slot and a setting need, as facts
pub record SlotParts (next_serial : ℕ) (objects : List ObjectRow) (row : CapabilityRow) : Type 0 where
  pub home : IsTrue (lives_as objects row.cspace.0 kind.Cspace)
  pub slot : IsTrue (is_slot row.slot)
  pub rights : IsTrue (has_kind_rights row)
  pub some : IsTrue (nat_lt 0 row.serial.0)
  pub made : IsTrue (nat_lt row.serial.0 next_serial)
  pub object : IsTrue (not row.valid || lives_as objects row.serial.0 row.kind)

pub slot_parts : (next_serial : ℕ) (objects : List ObjectRow) (row : CapabilityRow)
    → IsTrue (slot_fits next_serial objects row) → SlotParts next_serial objects row
slot_parts next_serial objects row fits =
    let last : _ × _ = and_parts _ (not row.valid || lives_as objects row.serial.0 row.kind) fits in
    let fifth : _ × _ = and_parts _ (nat_lt row.serial.0 next_serial) last.0 in
    let fourth : _ × _ = and_parts _ (nat_lt 0 row.serial.0) fifth.0 in
    let third : _ × _ = and_parts _ (has_kind_rights row) fourth.0 in
    let first : _ × _ =
    and_parts (lives_as objects row.cspace.0 kind.Cspace) (is_slot row.slot) third.0 in
    record { home = first.0; slot = first.1; rights = third.1; some = fourth.1; made = fifth.1; object = last.1 }

pub slot_from : (next_serial : ℕ) (objects : List ObjectRow) (row : CapabilityRow)
    → SlotParts next_serial objects row → IsTrue (slot_fits next_serial objects row)
slot_from next_serial objects row parts =
    and_from _ _ (and_from _ _ (and_from _ _ (and_from _ _ (and_from _ _ parts.home parts.slot) parts.rights) parts.some) parts.made) parts.object

pub record SettingParts (last : ℕ) (objects : List ObjectRow) (row : SetAtRow) : Type 0 where
  pub home : IsTrue (lives_as objects row.cspace.0 kind.Cspace)
  pub slot : IsTrue (is_slot row.slot)
  pub some : IsTrue (nat_lt 0 row.number)
  pub within : IsTrue (nat_le row.number last)

pub setting_parts : (last : ℕ) (objects : List ObjectRow) (row : SetAtRow)
    → IsTrue (setting_fits last objects row) → SettingParts last objects row
setting_parts last objects row fits =
    record {
      home = (and_parts _ _ (and_parts _ _ (and_parts _ _ fits).0).0).0;
      slot = (and_parts _ _ (and_parts _ _ (and_parts _ _ fits).0).0).1;
      some = (and_parts _ _ (and_parts _ _ fits).0).1;
      within = (and_parts _ _ fits).1;
    }

pub setting_from : (last : ℕ) (objects : List ObjectRow) (row : SetAtRow)
    → SettingParts last objects row → IsTrue (setting_fits last objects row)
setting_from last objects row parts =
    and_from _ _ (and_from _ _ (and_from _ _ parts.home parts.slot) parts.some) parts.within

-- a test that holds where another does, beside a third
either_still : (valid old new : Bool) → (old ≡ true → new ≡ true) → (not valid || old) ≡ true
    → (not valid || new) ≡ true
either_still true old new follows is = follows is
either_still false old new follows is = refl

-- what lives on

-- where all that live still do, slots fit
pub slots_live_on : (next later last : ℕ) (old new : List ObjectRow) (caps : List CapabilityRow) (set_at : List SetAtRow)
    → next ≤ later
    → ((serial : ℕ) (k : Kind) → IsTrue (lives_as old serial k) → IsTrue (lives_as new serial k))
    → SlotsFit next last old caps set_at → SlotsFit later last new caps set_at
slots_live_on next later last old new caps set_at more live fit = record {
  once = fit.once;
  masters = fit.masters;
  filled = all_by (slot_fits next old) (slot_fits later new) caps
      (λ row fits.
      let parts : SlotParts next old row = slot_parts next old row fits in
      slot_from later new row (record {
        home = live row.cspace.0 kind.Cspace parts.home;
        slot = parts.slot;
        rights = parts.rights;
        some = parts.some;
        made = (let made : row.serial.0 < next = ltb-true row.serial.0 next parts.made in lt-ltb row.serial.0 later (omega arith));
        object = either_still row.valid _ _ (live row.serial.0 row.kind) parts.object;
      })) fit.filled;
  set_once = fit.set_once;
  set = all_by (setting_fits last old) (setting_fits last new) set_at
      (λ row fits.
      let parts : SettingParts last old row = setting_parts last old row fits in
      setting_from last new row (record {
        home = live row.cspace.0 kind.Cspace parts.home;
        slot = parts.slot;
        some = parts.some;
        within = parts.within;
      })) fit.set;
}

-- a slot is set

module _ (next_serial last : ℕ) (objects : List ObjectRow) (caps : List CapabilityRow) (set_at : List SetAtRow) (fit : SlotsFit next_serial last objects caps set_at) where
  -- the slot of a capability space that lives is set by an entry up to the last
  settings_fit : (cspace : Serial) (slot number : ℕ) → 0 < number → number ≤ last
      → IsTrue (lives_as objects cspace.0 kind.Cspace) → IsTrue (is_slot slot)
      → IsTrue (list_all (setting_fits last objects) (with_setting set_at cspace slot number))
  settings_fit cspace slot number some within home is =
      each_setting set_at cspace slot number (λ new. IsTrue (list_all (setting_fits last objects) new))
      (λ none. all_push (setting_fits last objects) set_at (record { cspace = cspace; slot = slot; number = number }) fit.set
      (setting_from last objects (record { cspace = cspace; slot = slot; number = number }) (record { home = home; slot = is; some = lt-ltb 0 number some; within = le-leb number last within })))
      (λ row found. all_change (setting_fits last objects) (tells_setting cspace.0 slot) (with_number number) set_at (λ one here fits. setting_again one fits) fit.set)
    where
      setting_again : (one : SetAtRow) → IsTrue (setting_fits last objects one)
          → IsTrue (setting_fits last objects (with_number number one))
      setting_again one fits =
          let parts : SettingParts last objects one = setting_parts last objects one fits in
          setting_from last objects (with_number number one) (record { home = parts.home; slot = parts.slot; some = lt-ltb 0 number some; within = le-leb number last within })

  fills_once : (row : CapabilityRow) (c n : ℕ) → find (fills row.cspace.0 row.slot) caps ≡ None
      → (here : Bool) → fills c n row ≡ here → count_by (fills c n) caps + one_if here ≤ 1
  fills_once row c n free true is =
      let same : count_by (fills c n) caps ≡ count_by (fills row.cspace.0 row.slot) caps =
      count_same (fills c n) (fills row.cspace.0 row.slot) caps (λ one. grind (arith, nat_tests)) in
      let one : one_if true ≡ 1 = refl in
      omega (arith, count_unfound (fills row.cspace.0 row.slot) caps free)
  fills_once row c n free false is = let no : one_if false ≡ 0 = refl in omega (arith, fit.once c n)

  master_once : (row : CapabilityRow) (n : ℕ)
      → (row.master ≡ true → count_by (is_master_of row.serial.0) caps ≡ 0) → (here : Bool)
      → is_master_of n row ≡ here → count_by (is_master_of n) caps + one_if here ≤ 1
  master_once row n only true is =
      let parts : (row.master ≡ true) × ((row.serial.0 == n) ≡ true) = and_parts _ _ is in
      let none : count_by (is_master_of n) caps ≡ 0 =
      subst (λ (m : ℕ). count_by (is_master_of m) caps ≡ 0) (eqb-true row.serial.0 n parts.1) (only parts.0) in
      let one : one_if true ≡ 1 = refl in
      omega arith
  master_once row n only false is = let no : one_if false ≡ 0 = refl in omega (arith, fit.masters n)

  -- a free slot is filled, with its setting as it was
  pub fill_keeps_slots : (row : CapabilityRow) → find (fills row.cspace.0 row.slot) caps ≡ None
      → (row.master ≡ true → count_by (is_master_of row.serial.0) caps ≡ 0)
      → IsTrue (slot_fits next_serial objects row)
      → SlotsFit next_serial last objects (caps ++ row ∷ []) set_at
  fill_keeps_slots row free only fits = record {
    once = λ c n. subst (λ (m : ℕ). m ≤ 1) (sym (count_push (fills c n) caps row)) (fills_once row c n free (fills c n row) refl);
    masters = λ n. subst (λ (m : ℕ). m ≤ 1) (sym (count_push (is_master_of n) caps row)) (master_once row n only (is_master_of n row) refl);
    filled = all_push (slot_fits next_serial objects) caps row fit.filled fits;
    set_once = fit.set_once;
    set = fit.set;
  }

  module _ (number : ℕ) (some : 0 < number) (within : number ≤ last) where
    -- a free slot is filled by an entry
    pub put_keeps_slots : (row : CapabilityRow) → find (fills row.cspace.0 row.slot) caps ≡ None
        → (row.master ≡ true → count_by (is_master_of row.serial.0) caps ≡ 0)
        → IsTrue (slot_fits next_serial objects row)
        → SlotsFit next_serial last objects (caps ++ row ∷ []) (with_setting set_at row.cspace row.slot number)
    put_keeps_slots row free only fits =
        let parts : SlotParts next_serial objects row = slot_parts next_serial objects row fits in
        let filled : SlotsFit next_serial last objects (caps ++ row ∷ []) set_at =
        fill_keeps_slots row free only fits in
        record {
          once = filled.once;
          masters = filled.masters;
          filled = filled.filled;
          set_once = λ c n. setting_once set_at row.cspace row.slot number c n (fit.set_once c n);
          set = settings_fit row.cspace row.slot number some within parts.home parts.slot;
        }

    module _ (cspace : Serial) (slot : ℕ) (row : CapabilityRow) (found : find (fills cspace.0 slot) caps ≡ Some row) where
      -- a slot that is filled is one of a capability space that lives
      found_parts : SlotParts next_serial objects row
      found_parts =
          slot_parts next_serial objects row (found_all (fills cspace.0 slot) (slot_fits next_serial objects) caps row fit.filled found)

      found_place : (row.cspace.0 ≡ cspace.0) × (row.slot ≡ slot)
      found_place =
          let parts : ((row.cspace.0 == cspace.0) ≡ true) × ((row.slot == slot) ≡ true) =
          and_parts _ _ (found_passes (fills cspace.0 slot) caps row found) in
          (eqb-true row.cspace.0 cspace.0 parts.0, eqb-true row.slot slot parts.1)

      set_fits : IsTrue (list_all (setting_fits last objects) (with_setting set_at cspace slot number))
      set_fits =
          settings_fit cspace slot number some within
          (subst (λ (m : ℕ). IsTrue (lives_as objects m kind.Cspace)) found_place.0 found_parts.home)
          (subst (λ (m : ℕ). IsTrue (is_slot m)) found_place.1 found_parts.slot)

      -- it is emptied
      pub drop_keeps_slots : SlotsFit next_serial last objects (without (fills cspace.0 slot) caps) (with_setting set_at cspace slot number)
      drop_keeps_slots = record {
        once = λ c n. omega (arith, count_fewer (fills c n) (fills cspace.0 slot) caps, fit.once c n);
        masters = λ n. omega (arith, count_fewer (is_master_of n) (fills cspace.0 slot) caps, fit.masters n);
        filled = all_without (slot_fits next_serial objects) (fills cspace.0 slot) caps fit.filled;
        set_once = λ c n. setting_once set_at cspace slot number c n (fit.set_once c n);
        set = set_fits;
      }

      revoked_fits : (one : CapabilityRow) → IsTrue (slot_fits next_serial objects one)
          → IsTrue (slot_fits next_serial objects (as_revoked one))
      revoked_fits one fits =
          let parts : SlotParts next_serial objects one = slot_parts next_serial objects one fits in
          slot_from next_serial objects (as_revoked one) (record { home = parts.home; slot = parts.slot; rights = parts.rights; some = parts.some; made = parts.made; object = refl })

      -- it is revoked
      pub revoke_keeps_slots : SlotsFit next_serial last objects (change_row (fills cspace.0 slot) as_revoked caps) (with_setting set_at cspace slot number)
      revoke_keeps_slots = record {
        once = λ c n. subst (λ (m : ℕ). m ≤ 1) (sym (count_change_kept (fills c n) (fills cspace.0 slot) as_revoked caps (λ one. refl))) (fit.once c n);
        masters = λ n. subst (λ (m : ℕ). m ≤ 1) (sym (count_change_kept (is_master_of n) (fills cspace.0 slot) as_revoked caps (λ one. refl))) (fit.masters n);
        filled = all_change (slot_fits next_serial objects) (fills cspace.0 slot) as_revoked caps (λ one here fits. revoked_fits one fits) fit.filled;
        set_once = λ c n. setting_once set_at cspace slot number c n (fit.set_once c n);
        set = set_fits;
      }

  -- an object goes without references

  valid_elsewhere : (object : ℕ) (row : CapabilityRow) (valid : Bool) → row.valid ≡ valid
      → (valid && (row.serial.0 == object)) ≡ false
      → (not valid || lives_as objects row.serial.0 row.kind) ≡ true
      → (not valid || lives_as (without (is_object object) objects) row.serial.0 row.kind) ≡ true
  valid_elsewhere object row true is other lives =
      lives_left objects object row.serial.0 row.kind other ∙ lives
  valid_elsewhere object row false is other lives = refl

  slot_left : (object : ℕ) (row : CapabilityRow) → is_in_cspace object row ≡ false
      → is_capability_of object row ≡ false → IsTrue (slot_fits next_serial objects row)
      → IsTrue (slot_fits next_serial (without (is_object object) objects) row)
  slot_left object row home other fits =
      let parts : SlotParts next_serial objects row = slot_parts next_serial objects row fits in
      slot_from next_serial (without (is_object object) objects) row (record {
        home = lives_left objects object row.cspace.0 kind.Cspace home ∙ parts.home;
        slot = parts.slot;
        rights = parts.rights;
        some = parts.some;
        made = parts.made;
        object = valid_elsewhere object row row.valid refl other parts.object;
      })

  setting_left : (object : ℕ) (row : SetAtRow) → is_set_in object row ≡ false
      → IsTrue (setting_fits last objects row)
      → IsTrue (setting_fits last (without (is_object object) objects) row)
  setting_left object row home fits =
      let parts : SettingParts last objects row = setting_parts last objects row fits in
      setting_from last (without (is_object object) objects) row (record {
        home = lives_left objects object row.cspace.0 kind.Cspace home ∙ parts.home;
        slot = parts.slot;
        some = parts.some;
        within = parts.within;
      })

  -- its slots and their settings go with it, and no valid capability names it
  pub reclaim_keeps_slots : (object : ℕ) → count_by (is_capability_of object) caps ≡ 0
      → SlotsFit next_serial last (without (is_object object) objects) (without (is_in_cspace object) caps) (without (is_set_in object) set_at)
  reclaim_keeps_slots object none = record {
    once = λ c n. omega (arith, count_fewer (fills c n) (is_in_cspace object) caps, fit.once c n);
    masters = λ n. omega (arith, count_fewer (is_master_of n) (is_in_cspace object) caps, fit.masters n);
    filled = all_uncounted (slot_fits next_serial objects) (slot_fits next_serial (without (is_object object) objects))
        (is_capability_of object) (is_in_cspace object) caps (slot_left object) none fit.filled;
    set_once = λ c n. omega (arith, count_fewer (tells_setting c n) (is_set_in object) set_at, fit.set_once c n);
    set = all_left (setting_fits last objects) (setting_fits last (without (is_object object) objects)) (is_set_in object) set_at (setting_left object) fit.set;
  }
