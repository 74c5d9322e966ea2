-- The changes of the calls on capabilities may be made.
use Rattle.std.proofs.Common.{◌≡◌, ◌∙◌, ℕ, Bool, true, false, not, List, [], ◌∷◌, refl, subst, sym, ap, Option, Some, None, IsTrue, find, if◌then◌else◌}
use Rattle.std.specs.Prelude.{◌||◌, ◌==◌, bit_and, is_some}
use Rattle.std.specs.List.{list_any, list_all, range_with_len}
use Rattle.std.proofs.lemmas.Bool.{and_parts, eqb-true}
use Rattle.std.proofs.lemmas.Nat.{and_assoc, and_comm}
use Rattle.gh_base.specs.Kind.{kind_rights}
use Rattle.gh_base.specs.declared.errno.Errno.TheVariants.{CapRevoked, InsufRights, Retry}
use Rattle.gh_base.specs.declared.ids.Serial.{Serial}
use Rattle.gh_base.specs.declared.kind.Kind.TheVariants as kind
use Rattle.gh_model.specs.Boot.{cpu_cspace}
use Rattle.gh_model.specs.CapabilityCalls.{cap_copy, cap_delete, cap_revoke, caps_revoke, copied, copied_into, copy_of, deleted, free_slot, is_empty_slot, is_finished, is_valid_of, revoked}
use Rattle.gh_model.specs.Decisions.{done, done_with, make_one}
use Rattle.gh_model.specs.Rows.{fills}
use Rattle.gh_model.specs.Word.{is_slot, setting, word_at}
use Rattle.gh_model.specs.declared.change.Change.TheVariants.{PutCapability, DropCapability, RevokeCapability}
use Rattle.gh_model.specs.declared.change.Decision.TheVariants.{Unfinished, Make}
use Rattle.gh_model.specs.declared.rows.CapabilityRow.{CapabilityRow}
use Rattle.gh_model.specs.declared.state.State.{State}
use Rattle.gh_model.specs.declared.word.Word.{Word}
use Rattle.gh_invariant.specs.Grants.{MayMake, is_referred}
use Rattle.gh_invariant.specs.Lives.{has_kind_rights, lives_as, slot_fits}
use Rattle.gh_invariant.specs.Premises.{IsFilled, MayPut}
use Rattle.gh_invariant.specs.Valid.{IsValid}
use Rattle.gh_invariant.proofs.Counting.{found_all, found_passes}
use Rattle.gh_invariant.proofs.MayMake.{itself, one, provided, unless}
use Rattle.gh_invariant.proofs.Referred.{capability_refers, may_refer}
use Rattle.gh_invariant.proofs.SlotsFit.{slot_parts}

-- a test that no row passes finds none
none_found : {R : Type 0} (p : R → Bool) (rows : List R) → list_any p rows ≡ false → find p rows ≡ None
none_found p [] none = refl
none_found p (row ∷ rows) none = none_found_by p row rows (p row) refl none (none_found p rows)
  where
    none_found_by : {R : Type 0} (p : R → Bool) (row : R) (rows : List R) (here : Bool) → p row ≡ here
        → (here || list_any p rows) ≡ false → (list_any p rows ≡ false → find p rows ≡ None) → find p (row ∷ rows) ≡ None
    none_found_by p row rows true passes none others = absurd (let never : ⊥ = cc in never)
    none_found_by p row rows false fails none others = rw fails (others none)

not_true : (b : Bool) → not b ≡ true → b ≡ false
not_true true is = absurd (let never : ⊥ = cc in never)
not_true false is = refl

-- the least free slot is one of the numbers, and no capability fills it
pub record IsFree (s : State) (cspace number : ℕ) : Type 0 where
  pub slot : IsTrue (is_slot number)
  pub free : find (fills cspace number) s.caps ≡ None

all_slots : IsTrue (list_all is_slot (range_with_len 1 127))
all_slots = refl

pub free_slot_is : (s : State) (cspace slot : ℕ) → free_slot s cspace ≡ Some slot → IsFree s cspace slot
free_slot_is s cspace slot is = record {
  slot = found_all (is_empty_slot s.caps cspace) is_slot (range_with_len 1 127) slot all_slots is;
  free = none_found (fills cspace slot) s.caps (not_true _ (found_passes (is_empty_slot s.caps cspace) (range_with_len 1 127) slot is));
}

-- what a word has, a capability fills the slot
word_found_by : (slot : Bool) (row : Option CapabilityRow) (number : ℕ) (found : CapabilityRow)
    → (let word : Word = if slot then record { row = row; set_at = number } else record { row = None; set_at = 0 } in word.row) ≡ Some found
    → row ≡ Some found
word_found_by true row number found is = is
word_found_by false row number found is = absurd (let never : ⊥ = cc in never)

pub word_found : (s : State) (cspace slot : ℕ) (found : CapabilityRow) → (word_at s cspace slot).row ≡ Some found
    → find (fills cspace slot) s.caps ≡ Some found
word_found s cspace slot found is =
    word_found_by (is_slot slot) (find (fills cspace slot) s.caps) (setting s cspace slot) found is

-- a valid capability's object lives and is of its kind
valid_names_by : (valid lives : Bool) → valid ≡ true → (not valid || lives) ≡ true → lives ≡ true
valid_names_by true lives is fits = fits
valid_names_by false lives is fits = absurd (let never : ⊥ = cc in never)

-- rights under a mask are within what the rights were within
masked_rights : (rights mask kinds : ℕ) → (bit_and rights kinds == rights) ≡ true
    → (bit_and (bit_and rights mask) kinds == bit_and rights mask) ≡ true
masked_rights rights mask kinds within =
    let same : bit_and rights kinds ≡ rights = eqb-true (bit_and rights kinds) rights within in
    let turned : bit_and (bit_and rights mask) kinds ≡ bit_and (bit_and rights kinds) mask = masks_turn rights mask kinds in
    let all : bit_and (bit_and rights mask) kinds ≡ bit_and rights mask = turned ∙ ap (λ (n : ℕ). bit_and n mask) same in
    subst (λ (n : ℕ). (n == bit_and rights mask) ≡ true) (sym all) (itself (bit_and rights mask))
  where
    masks_turn : (a b c : ℕ) → bit_and (bit_and a b) c ≡ bit_and (bit_and a c) b
    masks_turn a b c = and_assoc c a b ∙ ap (bit_and a) (and_comm b c) ∙ sym (and_assoc b a c)

module _ (s : State) (valid : IsValid s) where
  pub valid_names : (cspace slot : ℕ) (row : CapabilityRow) → find (fills cspace slot) s.caps ≡ Some row → row.valid ≡ true
      → IsTrue (lives_as s.objects row.serial.0 row.kind)
  valid_names cspace slot row found is =
      let fits : IsTrue (slot_fits s.next_serial s.objects row) =
      found_all (fills cspace slot) (slot_fits s.next_serial s.objects) s.caps row valid.slots.filled found in
      valid_names_by row.valid (lives_as s.objects row.serial.0 row.kind) is
      (slot_parts s.next_serial s.objects row fits).object

  slot_rights : (cspace slot : ℕ) (row : CapabilityRow) → find (fills cspace slot) s.caps ≡ Some row → IsTrue (has_kind_rights row)
  slot_rights cspace slot row found =
      (slot_parts s.next_serial s.objects row
      (found_all (fills cspace slot) (slot_fits s.next_serial s.objects) s.caps row valid.slots.filled found)).rights

  copied_into_made : (row : CapabilityRow) (cspace : Serial) (mask : ℕ) (slot : Option ℕ) → free_slot s cspace.0 ≡ slot
      → IsTrue (lives_as s.objects cspace.0 kind.Cspace) → IsTrue (lives_as s.objects row.serial.0 row.kind) → row.valid ≡ true
      → IsTrue (has_kind_rights row) → IsTrue (is_referred s cspace) → IsTrue (is_referred s row.serial)
      → MayMake s (copied_into row cspace mask slot)
  copied_into_made row cspace mask None is home object good rights from_home from_object = tt
  copied_into_made row cspace mask (Some slot) is home object good rights from_home from_object =
      let free : IsFree s cspace.0 slot = free_slot_is s cspace.0 slot is in
      let put : MayPut s (copy_of row cspace slot mask) = record {
        slot = free.slot;
        free = free.free;
        home = home;
        object = object;
        valid = good;
        rights = masked_rights row.rights.0 mask (kind_rights row.kind) rights;
        master = λ is. absurd (let never : ⊥ = cc in never);
        from_slot = may_refer s valid cspace from_home;
        from_capability = may_refer s valid row.serial from_object;
      } in
      one s (PutCapability (copy_of row cspace slot mask)) (done_with slot) put

  copied_made : (cspace object : Serial) (mask caller source : ℕ) (found : Option CapabilityRow)
      → (word_at s caller source).row ≡ found → IsTrue (lives_as s.objects cspace.0 kind.Cspace) → IsTrue (is_referred s cspace)
      → MayMake s (copied s cspace object mask found)
  copied_made cspace object mask caller source None is home from_home = tt
  copied_made cspace object mask caller source (Some row) is home from_home =
      provided s (is_valid_of object row) Retry (copied_into row cspace mask (free_slot s cspace.0)) (λ valid_of.
      let good : (row.valid ≡ true) × ((row.serial.0 == object.0) ≡ true) = and_parts _ _ valid_of in
      let names : IsTrue (lives_as s.objects row.serial.0 row.kind) =
      valid_names caller source row (word_found s caller source row is) good.0 in
      copied_into_made row cspace mask (free_slot s cspace.0) refl home names good.0
      (slot_rights caller source row (word_found s caller source row is)) from_home
      (capability_refers s caller source row (word_found s caller source row is) good.0))

  pub cap_copy_made : (cpu : ℕ) (cspace object : Serial) (source mask : ℕ)
      → IsTrue (lives_as s.objects cspace.0 kind.Cspace) → IsTrue (is_referred s cspace) → MayMake s (cap_copy s cpu cspace object source mask)
  cap_copy_made cpu cspace object source mask home from_home =
      copied_made cspace object mask (cpu_cspace s.cpus cpu) source _ refl home from_home

-- a capability that is found fills the slot that its row names
pub found_filled : (s : State) (cspace slot : ℕ) (row : CapabilityRow) → find (fills cspace slot) s.caps ≡ Some row
    → IsFilled s row.cspace row.slot
found_filled s cspace slot row found =
    let named : ((row.cspace.0 == cspace) ≡ true) × ((row.slot == slot) ≡ true) = and_parts _ _ (found_passes (fills cspace slot) s.caps row found) in
    let space : row.cspace.0 ≡ cspace = eqb-true row.cspace.0 cspace named.0 in
    let number : row.slot ≡ slot = eqb-true row.slot slot named.1 in
    let here : find (fills row.cspace.0 row.slot) s.caps ≡ Some row =
    subst (λ (c : ℕ). find (fills c row.slot) s.caps ≡ Some row) (sym space)
    (subst (λ (n : ℕ). find (fills cspace n) s.caps ≡ Some row) (sym number) found) in
    ap is_some here

deleted_made : (s : State) (cspace slot : ℕ) (found : Option CapabilityRow) → (word_at s cspace slot).row ≡ found
    → MayMake s (deleted found)
deleted_made s cspace slot None is = tt
deleted_made s cspace slot (Some row) is =
    one s (DropCapability row.cspace row.slot) done (found_filled s cspace slot row (word_found s cspace slot row is))

pub cap_delete_made : (s : State) (cspace : Serial) (slot : ℕ) → MayMake s (cap_delete s cspace slot)
cap_delete_made s cspace slot = deleted_made s cspace.0 slot _ refl

revoked_made : (s : State) (cspace slot : ℕ) (found : Option CapabilityRow) → (word_at s cspace slot).row ≡ found
    → MayMake s (revoked found)
revoked_made s cspace slot None is = tt
revoked_made s cspace slot (Some row) is =
    let drop : MayMake s (make_one (RevokeCapability row.cspace row.slot) done) =
    one s (RevokeCapability row.cspace row.slot) done (found_filled s cspace slot row (word_found s cspace slot row is)) in
    unless s (not row.valid) CapRevoked _ (λ good. unless s row.master InsufRights _ (λ plain. drop))

pub cap_revoke_made : (s : State) (cspace : Serial) (slot : ℕ) → MayMake s (cap_revoke s cspace slot)
cap_revoke_made s cspace slot = revoked_made s cspace.0 slot _ refl

caps_revoke_made_by : (s : State) (finished : Bool) (reply : ℕ) → MayMake s (if finished then Make [] (done_with reply) else Unfinished)
caps_revoke_made_by s true reply = tt
caps_revoke_made_by s false reply = tt

pub caps_revoke_made : (s : State) (object : Serial) → MayMake s (caps_revoke s object)
caps_revoke_made s object = caps_revoke_made_by s (is_finished s object) _
