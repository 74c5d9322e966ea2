-- A valid state has at most as many capabilities as there are slots, and in the state of a boot file
-- no object is retired.
use Rattle.std.proofs.Common.{◌≡◌, ◌==◌, ◌*◌, ◌≤◌, ◌∙◌, ℕ, Bool, true, false, List, [], ◌∷◌, ◌++◌, length, refl, subst, sym, ap, arith, IsTrue, Option, Some, None, find, fold}
use Rattle.std.specs.Prelude.{◌&&◌, count_by, is_some, nat_le}
use Rattle.std.specs.List.{list_all, range_with_len, sum_by}
use Rattle.std.proofs.lemmas.Bool.{and_from, and_parts, eqb-true, leb-true}
use Rattle.std.proofs.lemmas.List.FromFn.{length-range_with_len}
use Rattle.std.proofs.lemmas.List.Sums.{sum_by-cons}
use Rattle.gh_base.specs.Kind.{kind_number}
use Rattle.gh_base.specs.declared.kind.Kind.TheVariants as kind
use Rattle.gh_base.specs.declared.limits.TheConstants.{CSPACES, CSPACE_SLOTS}
use Rattle.gh_model.specs.Boot.{after_line, boot_state, empty_state, is_of_kind}
use Rattle.gh_model.specs.Changes.{is_in_cspace}
use Rattle.gh_model.specs.QueueCalls.{one_if}
use Rattle.gh_model.specs.Rows.{fills, is_object}
use Rattle.gh_model.specs.declared.boot_line.BootLine.{BootLine}
use Rattle.gh_model.specs.declared.boot_line.BootLine.TheVariants.{Pages, Partition, Cspace, Addrspace, Doorbell, RootExtent, Extent, Msgqueue, Map, Cap, Vm, Rm, Link}
use Rattle.gh_model.specs.declared.rows.CapabilityRow.{CapabilityRow}
use Rattle.gh_model.specs.declared.rows.ObjectRow.{ObjectRow}
use Rattle.gh_model.specs.declared.state.State.{State}
use Rattle.gh_invariant.specs.Lives.{kind_total, slot_fits}
use Rattle.gh_invariant.specs.Valid.{IsValid}
use Rattle.gh_invariant.proofs.Counting.{count_cons, count_most, count_push, found_one}
use Rattle.gh_invariant.proofs.SlotsFit.{SlotParts, slot_parts}
use Rattle.gh_events.specs.Length.{is_leaving}
use Rattle.gh_events.proofs.Boxes.{in_boxes, in_range, ones, sum_most}
use Rattle.gh_events.proofs.Finding.{finds, found_passes, same_number}

-- slots

module _ (s : State) (valid : IsValid s) where
  fit : CapabilityRow → Bool
  fit row = slot_fits s.next_serial s.objects row

  parts_of : (row : CapabilityRow) → IsTrue (fit row) → SlotParts s.next_serial s.objects row
  unfolding fit
  parts_of row fits = slot_parts s.next_serial s.objects row fits

  all_fit : IsTrue (list_all fit s.caps)
  unfolding fit
  all_fit = valid.slots.filled

  -- a capability space has at most 127
  few_in_cspace : (cspace : ℕ) → count_by (is_in_cspace cspace) s.caps ≤ 127
  few_in_cspace cspace =
      let each : count_by (is_in_cspace cspace) s.caps ≤ sum_by (λ (slot : ℕ). count_by (fills cspace slot) s.caps) (range_with_len 1 127) =
      in_boxes (λ (slot : ℕ) (row : CapabilityRow). fills cspace slot row) (range_with_len 1 127) (is_in_cspace cspace) fit s.caps in_slot all_fit in
      let few : sum_by (λ (slot : ℕ). count_by (fills cspace slot) s.caps) (range_with_len 1 127) ≤ sum_by (λ (slot : ℕ). 1) (range_with_len 1 127) =
      sum_most (λ (slot : ℕ) (row : CapabilityRow). fills cspace slot row) (λ _. 1) s.caps (range_with_len 1 127) (λ slot. valid.slots.once cspace slot) in
      omega (arith, each, few, ones (range_with_len 1 127), length-range_with_len 1 127)
    where
      in_slot : (row : CapabilityRow) → IsTrue (fit row) → is_in_cspace cspace row ≡ true
          → 1 ≤ count_by (λ (slot : ℕ). fills cspace slot row) (range_with_len 1 127)
      in_slot row fits here =
          let slot = and_parts (nat_le 1 row.slot) (nat_le row.slot 127) (parts_of row fits).slot in
          in_range (λ (n : ℕ). fills cspace n row) 1 127 row.slot (leb-true 1 row.slot slot.0) (omega (arith, leb-true row.slot 127 slot.1))
          (and_from _ _ here (same_number row.slot))

  -- and there are at most sixteen of these
  is_home : ObjectRow → CapabilityRow → Bool
  is_home object row = (kind_number object.kind == kind_number kind.Cspace) && (object.serial.0 == row.cspace.0)

  most_in : ObjectRow → ℕ
  most_in object = one_if (kind_number object.kind == kind_number kind.Cspace) * 127

  no_home : (object : ObjectRow) (row : CapabilityRow) → (kind_number object.kind == kind_number kind.Cspace) ≡ false
      → is_home object row ≡ false
  unfolding is_home
  no_home object row other = rw other refl

  its_home : (object : ObjectRow) (row : CapabilityRow) → is_home object row ≡ true → is_in_cspace object.serial.0 row ≡ true
  unfolding is_home
  its_home object row is =
      let both = and_parts (kind_number object.kind == kind_number kind.Cspace) (object.serial.0 == row.cspace.0) is in
      let same : object.serial.0 ≡ row.cspace.0 = eqb-true object.serial.0 row.cspace.0 both.1 in
      subst (λ (n : ℕ). (row.cspace.0 == n) ≡ true) (sym same) (same_number row.cspace.0)

  none_counted : (object : ObjectRow) (rows : List CapabilityRow) → (kind_number object.kind == kind_number kind.Cspace) ≡ false
      → count_by (is_home object) rows ≡ 0
  none_counted object [] other = refl
  none_counted object (row ∷ rows) other =
      omega (arith, count_cons (is_home object) row rows, ap one_if (no_home object row other), none_counted object rows other)

  homes_in : (object : ObjectRow)
      → count_by (is_home object) s.caps ≤ count_by (is_in_cspace object.serial.0) s.caps
  homes_in object =
      count_most (is_home object) (is_in_cspace object.serial.0) s.caps (λ row here. its_home object row here)

  few_at : (object : ObjectRow) (cspace : Bool) → (kind_number object.kind == kind_number kind.Cspace) ≡ cspace
      → count_by (is_home object) s.caps ≤ one_if cspace * 127
  few_at object true is =
      let one : one_if true ≡ 1 = refl in
      omega (arith, homes_in object, few_in_cspace object.serial.0)
  few_at object false is = omega (arith, none_counted object s.caps is)

  few_spaces : (objects : List ObjectRow) → sum_by most_in objects ≡ kind_total objects kind.Cspace * 127
  unfolding most_in
  few_spaces [] = refl
  few_spaces (object ∷ objects) =
      omega (arith, sum_by-cons most_in object objects, count_cons (λ (row : ObjectRow). kind_number row.kind == kind_number kind.Cspace) object objects, few_spaces objects)

  home_by : (row : CapabilityRow) (found : Option ObjectRow) → find (is_object row.cspace.0) s.objects ≡ found
      → is_of_kind kind.Cspace found ≡ true → 1 ≤ count_by (λ (object : ObjectRow). is_home object row) s.objects
  unfolding is_home
  home_by row None is home = absurd (let never : ⊥ = cc in never)
  home_by row (Some object) is home =
      let passes : is_home object row ≡ true = and_from _ _ home (found_passes (is_object row.cspace.0) s.objects object is) in
      some_one (find (λ (one : ObjectRow). is_home one row) s.objects) refl (finds (is_object row.cspace.0) (λ (one : ObjectRow). is_home one row) s.objects object is passes)
    where
      some_one : (one : Option ObjectRow) → find (λ (object : ObjectRow). is_home object row) s.objects ≡ one
          → is_some one ≡ true
          → 1 ≤ count_by (λ (object : ObjectRow). is_home object row) s.objects
      some_one None same some = absurd (let never : ⊥ = cc in never)
      some_one (Some object) same some = found_one (λ (object : ObjectRow). is_home object row) s.objects object same

  -- so a state has no more capabilities than slots
  pub few_capabilities : length s.caps ≤ CSPACES * CSPACE_SLOTS
  unfolding most_in
  few_capabilities =
      let each : count_by (λ (row : CapabilityRow). true) s.caps ≤ sum_by (λ (object : ObjectRow). count_by (is_home object) s.caps) s.objects =
      in_boxes is_home s.objects (λ row. true) fit s.caps (λ row fits here. home_by row (find (is_object row.cspace.0) s.objects) refl (parts_of row fits).home) all_fit in
      let few : sum_by (λ (object : ObjectRow). count_by (is_home object) s.caps) s.objects ≤ sum_by most_in s.objects =
      sum_most is_home most_in s.caps s.objects at_most in
      omega (arith, each, few, few_spaces s.objects, valid.objects.cspaces, ones s.caps)
    where
      at_most : (object : ObjectRow) → count_by (is_home object) s.caps ≤ most_in object
      at_most object = few_at object (kind_number object.kind == kind_number kind.Cspace) refl

-- the boot's objects

pushed : (objects : List ObjectRow) (row : ObjectRow) → row.retired ≡ None
    → count_by is_leaving (objects ++ row ∷ []) ≡ count_by is_leaving objects
pushed objects row unretired =
    omega (arith, count_push is_leaving objects row, ap (λ (kept : Option (List ℕ)). one_if (is_some kept)) unretired)

line_leaves : (s : State) (line : BootLine)
    → count_by is_leaving (after_line s line).objects ≡ count_by is_leaving s.objects
line_leaves s (Pages count) = refl
line_leaves s (Partition quota) = pushed s.objects _ refl
line_leaves s (Cspace partition) = pushed s.objects _ refl
line_leaves s (Addrspace partition) = pushed s.objects _ refl
line_leaves s (Doorbell partition) = pushed s.objects _ refl
line_leaves s (RootExtent partition) = pushed s.objects _ refl
line_leaves s (Extent partition parent offset count access first pages) = pushed s.objects _ refl
line_leaves s (Msgqueue partition depth size) = pushed s.objects _ refl
line_leaves s (Map space extent base offset count access) = refl
line_leaves s (Cap cspace slot object rights master) = refl
line_leaves s (Vm cspace space) = refl
line_leaves s (Rm cspace space partition) = refl
line_leaves s (Link vm extent request reply) = refl

lines_leave : (s : State) (lines : List BootLine)
    → count_by is_leaving (fold after_line s lines).objects ≡ count_by is_leaving s.objects
lines_leave s [] = refl
lines_leave s (line ∷ lines) = lines_leave (after_line s line) lines ∙ line_leaves s line

-- none of a boot file's is retired
pub none_leaving : (lines : List BootLine) → count_by is_leaving (boot_state lines).objects ≡ 0
none_leaving lines = lines_leave empty_state lines
