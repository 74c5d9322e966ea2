-- What is retired has no references behind each change that may be made.
use Rattle.std.proofs.Common.{◌≡◌, ◌<◌, ◌≤◌, ◌∙◌, ◌&&◌, ◌==◌, inl, inr, ℕ, Bool, true, false, List, [], ◌∷◌, ◌++◌, length, refl, subst, sym, ap, arith, Option, Some, None, find, is_some}
use Rattle.std.specs.Option.{option_or}
use Rattle.std.specs.Prelude.{count_by}
use Rattle.std.proofs.lemmas.Bool.{both_ways, and_left, and_parts, and_right, eqb-true, ne_eqb, or_from}
use Rattle.std.proofs.lemmas.Bool.Decides.{eqb_tells, nat_tests}
use Rattle.gh_base.specs.declared.ids.Serial.{Serial}
use Rattle.gh_base.specs.declared.kind.Kind.TheVariants as kind
use Rattle.gh_model.specs.Changes.{boot_object, changed, serial_of, with_stage, with_counters, with_cost}
use Rattle.gh_model.specs.History.{is_retired, is_unretired}
use Rattle.gh_model.specs.QueueCalls.{one_if}
use Rattle.gh_model.specs.References.{references, is_inhabitant_of, is_child_of, is_root_extent, uses_link}
use Rattle.gh_model.specs.Rows.{change_row, is_object, object_row}
use Rattle.gh_model.specs.declared.change.Change.{Change}
use Rattle.gh_model.specs.declared.change.Change.TheVariants.{PutCapability, DropCapability, RevokeCapability, AddObject, SetStage, Retire, Reclaim, GiveQuota, AddExtent, MovePages, PutMapping, DropMapping, SetBell, ConfigureQueue, PutMessage, DropMessage, EmptyQueue, Exit, Ring, SetPages, AddPartition, AddRoot, SetRoom, FillSlot, AddCpu, AddLink}
use Rattle.gh_model.specs.declared.rows.CapabilityRow.{CapabilityRow}
use Rattle.gh_model.specs.declared.rows.CpuRow.{CpuRow}
use Rattle.gh_model.specs.declared.rows.ExtentRow.{ExtentRow}
use Rattle.gh_model.specs.declared.rows.LinkRow.{LinkRow}
use Rattle.gh_model.specs.declared.rows.MappingRow.{MappingRow}
use Rattle.gh_model.specs.declared.rows.ObjectRow.{ObjectRow}
use Rattle.gh_model.specs.declared.state.State.{State}
use Rattle.gh_invariant.specs.Effects.{times, gains, slot_names}
use Rattle.gh_invariant.specs.Premises.{MayChange, MayRefer, MayPut, MayAdd, MayAddPartition, MayAddRoot, MayAttach, MayLink, MayRetire, MaySpan, MayMap}
use Rattle.gh_invariant.specs.Valid.{IsValidTo}
use Rattle.gh_invariant.proofs.Counting.{find_push, found_one, one_false}
use Rattle.gh_invariant.proofs.ChangedRow.{find_change_seen, find_past_change}
use Rattle.gh_invariant.proofs.RowsLeft.{find_gone, find_left}
use Rattle.gh_invariant.proofs.CpusAdded.{times_link, used}
use Rattle.gh_invariant.proofs.PartitionAdded.{unmade}
use Rattle.gh_invariant.proofs.ReferencesLaw.{moves}
use Rattle.gh_invariant.proofs.ReferencesMoved.{times_home, times_one, times_parent, times_slot, times_two}

-- the object has no references once the change is made, where it is retired then
abbrev pub StaysRetired : State → Change → ℕ → Type 0
StaysRetired s change object =
    is_retired (object_row (changed s change) object) ≡ true → references (changed s change) object ≡ 0

module _ (last : ℕ) (s : State) (valid : IsValidTo last s) where
  found_one_at : (object : ℕ) (test : Option ObjectRow → Bool) → test None ≡ false
      → (found : Option ObjectRow) → find (is_object object) s.objects ≡ found → test found ≡ true
      → 1 ≤ count_by (is_object object) s.objects
  found_one_at object test fails None is passes = absurd (both_ways (test None) fails passes)
  found_one_at object test fails (Some row) is passes =
      found_one (is_object object) s.objects row is

  -- an object that passes a test isn't serial 0
  found_some : (object : ℕ) (test : Option ObjectRow → Bool) → test None ≡ false
      → test (object_row s object) ≡ true → 0 < object
  found_some object test fails passes =
      elim (eqb_tells object 0) as (λ _. 0 < object) [
        | inl none ↦
            let one : 1 ≤ count_by (is_object object) s.objects = found_one_at object test fails (object_row s object) refl passes in
            let zero : count_by (is_object object) s.objects ≡ 0 =
            subst (λ (n : ℕ). count_by (is_object n) s.objects ≡ 0) (sym none.1) valid.objects.none in
            absurd (omega arith)
        | inr some ↦ omega (arith, some.1)
      ]

  -- what a reference may come to is another
  elsewhere : (serial object : ℕ) → MayRefer s serial → is_retired (object_row s object) ≡ true
      → (serial == object) ≡ false
  elsewhere serial object may retired =
      elim (eqb_tells serial object) as (λ _. (serial == object) ≡ false) [
        | inl same ↦ absurd (both_ways (is_retired (object_row s object)) (subst (λ (n : ℕ). is_retired (object_row s n) ≡ false) same.1 may) retired)
        | inr differs ↦ differs.0
      ]

  -- what was retired, and is given no reference, has none
  still : (change : Change) (object : ℕ) → MayChange s change → times object (gains s change) ≡ 0
      → is_retired (object_row s object) ≡ true → references (changed s change) object ≡ 0
  still change object may ungained retired =
      omega (arith, moves last s valid object change (found_some object is_retired refl retired) may, ungained, valid.retired object retired)

  -- the references of a slot come to others
  slot_elsewhere : (row : CapabilityRow) (object : ℕ) → MayPut s row
      → is_retired (object_row s object) ≡ true → times object (slot_names (Some row)) ≡ 0
  slot_elsewhere row object may retired =
      let home : one_if (row.cspace.0 == object) ≡ 0 =
      one_false _ (elsewhere row.cspace.0 object may.from_slot retired) in
      let named : (row.valid && (row.serial.0 == object)) ≡ false =
      and_right row.valid (row.serial.0 == object) (elsewhere row.serial.0 object may.from_capability retired) in
      omega (arith, times_slot object row, home, one_false _ named)

  retired_before : (row : ObjectRow) (object : ℕ) → row.retired ≡ None → (old : Option ObjectRow)
      → is_retired (option_or old (find (is_object object) (row ∷ []))) ≡ true
      → is_retired old ≡ true
  retired_before row object unretired (Some before) retired = retired
  retired_before row object unretired None retired = absurd (none_new (row.serial.0 == object) refl)
    where
      none_new : (here : Bool) → (row.serial.0 == object) ≡ here → ⊥
      none_new true is = both_ways false refl (sym (ap is_some unretired) ∙ (rw is at retired))
      none_new false is = both_ways false refl (rw is at retired)

  -- what is retired beside an object that comes was so before
  retired_beside : (row : ObjectRow) (object : ℕ) → row.retired ≡ None
      → is_retired (find (is_object object) (s.objects ++ row ∷ [])) ≡ true
      → is_retired (object_row s object) ≡ true
  retired_beside row object unretired retired =
      retired_before row object unretired (object_row s object)
      (ap is_retired (sym (find_push (is_object object) s.objects row)) ∙ retired)

  add_still : (row : ObjectRow) (object : ℕ) → MayAdd s row → StaysRetired s (AddObject row) object
  add_still row object may retired =
      let before : is_retired (object_row s object) ≡ true =
      retired_beside row object may.unretired retired in
      let home : one_if (is_inhabitant_of object row) ≡ 0 =
      one_false _ (and_left _ _ (elsewhere row.partition.0 object may.from_object before)) in
      still (AddObject row) object may (omega (arith, times_home object row, home)) before

  span_still : (row : ExtentRow) (object : ℕ) → MaySpan s row
      → StaysRetired s (AddExtent row) object
  span_still row object may retired =
      let child : one_if (is_child_of object row) ≡ 0 =
      one_false _ (elsewhere row.parent.0 object may.from_child retired) in
      let called : 0 < row.parent.0 = may.parent in
      let root : one_if (is_root_extent object row) ≡ 0 =
      one_false _ (and_right _ _ (ne_eqb row.parent.0 0 (λ none. omega arith))) in
      still (AddExtent row) object may (omega (arith, times_parent object (found_some object is_retired refl retired) row, child, root)) retired

  partition_still : (quota object : ℕ) → MayAddPartition s quota
      → StaysRetired s (AddPartition quota) object
  partition_still quota object may retired =
      let before : is_retired (object_row s object) ≡ true =
      retired_beside (boot_object s kind.Partition s.next_serial 1) object refl retired in
      let new : one_if (s.next_serial == object) ≡ 0 =
      one_false _ (elsewhere s.next_serial object (ap is_retired (unmade last s quota valid may)) before) in
      still (AddPartition quota) object may (omega (arith, times_one object (serial_of s.next_serial), new)) before

  root_still : (row : ExtentRow) (object : ℕ) → MayAddRoot s row
      → StaysRetired s (AddRoot row) object
  root_still row object may retired =
      let whole : _ × _ = and_parts _ (row.access.0 == 7) may.whole in
      let third : _ × _ = and_parts _ (row.count == length s.holders) whole.0 in
      let two : _ × _ = and_parts (row.parent.0 == 0) (row.first.0 == 0) third.0 in
      let some : 0 < object = found_some object is_retired refl retired in
      let child : one_if (is_child_of object row) ≡ 0 =
      one_false _ (let none : row.parent.0 ≡ 0 = eqb-true row.parent.0 0 two.0 in ne_eqb row.parent.0 object (λ same. omega arith)) in
      let root : one_if (is_root_extent object row) ≡ 0 =
      one_false _ (and_left _ _ (elsewhere row.serial.0 object may.from_itself retired)) in
      still (AddRoot row) object may (omega (arith, times_parent object some row, child, root)) retired

  attach_still : (row : CpuRow) (object : ℕ) → MayAttach s row → StaysRetired s (AddCpu row) object
  attach_still row object may retired =
      let space : one_if (row.space.0 == object) ≡ 0 =
      one_false _ (elsewhere row.space.0 object may.from_space retired) in
      let cspace : one_if (row.cspace.0 == object) ≡ 0 =
      one_false _ (elsewhere row.cspace.0 object may.from_cspace retired) in
      still (AddCpu row) object may (rw may.runs (omega (arith, times_two object row.cspace row.space, space, cspace))) retired

  link_still : (row : LinkRow) (object : ℕ) → MayLink s row → StaysRetired s (AddLink row) object
  link_still row object may retired =
      let space : (may.cpu.space.0 == object) ≡ false = elsewhere may.cpu.space.0 object may.from_space retired in
      let extent : (row.extent.0 == object) ≡ false = elsewhere row.extent.0 object may.from_extent retired in
      let request : (row.request.0 == object) ≡ false = elsewhere row.request.0 object may.from_request retired in
      let reply : (row.reply.0 == object) ≡ false = elsewhere row.reply.0 object may.from_reply retired in
      let none : uses_link s.cpus object row ≡ false =
      used s row may object ∙ or_from _ _ (or_from _ _ (or_from _ _ space extent) request) reply in
      still (AddLink row) object may (times_link s row may object ∙ one_false _ none) retired

  map_still : (row : MappingRow) (object : ℕ) → MayMap s row
      → StaysRetired s (PutMapping row) object
  map_still row object may retired =
      let space : one_if (row.space.0 == object) ≡ 0 =
      one_false _ (elsewhere row.space.0 object may.from_space retired) in
      let extent : one_if (row.extent.0 == object) ≡ 0 =
      one_false _ (elsewhere row.extent.0 object may.from_extent retired) in
      still (PutMapping row) object may (omega (arith, times_two object row.space row.extent, space, extent)) retired

  -- a change in place that keeps a row's counters
  in_place : (change : Change) (serial : ℕ) (with : ObjectRow → ObjectRow) (object : ℕ)
      → MayChange s change → times object (gains s change) ≡ 0
      → ((row : ObjectRow) → (with row).serial ≡ row.serial)
      → ((row : ObjectRow) → (with row).retired ≡ row.retired)
      → is_retired (find (is_object object) (change_row (is_object serial) with s.objects)) ≡ true
      → references (changed s change) object ≡ 0
  in_place change serial with object may ungained same kept retired =
      still change object may ungained
      (sym (find_change_seen is_retired (is_object object) (is_object serial) with s.objects (λ row. ap (λ (one : Serial). one.0 == object) (same row)) (λ row. ap is_some (kept row))) ∙ retired)

  retire_still : (serial : Serial) (seen : List ℕ) (object : ℕ) → MayRetire s serial.0
      → StaysRetired s (Retire serial seen) object
  retire_still serial seen object may retired =
      elim (eqb_tells object serial.0) as (λ _. references (changed s (Retire serial seen)) object ≡ 0) [
        | inl same ↦
            let some : 0 < object =
            subst (λ (n : ℕ). 0 < n) (sym same.1) (found_some serial.0 is_unretired refl may.lives) in
            let doomed : references s object ≡ 0 =
            subst (λ (n : ℕ). references s n ≡ 0) (sym same.1) may.doomed in
            omega (arith, moves last s valid object (Retire serial seen) some may, doomed)
        | inr differs ↦ still (Retire serial seen) object may refl
            (sym (ap is_retired (find_past_change (is_object object) (is_object serial.0) (with_counters seen) s.objects
            (λ row here. let other : (object == serial.0) ≡ false = differs.0 in grind (arith, nat_tests))
            (λ row here. let other : (object == serial.0) ≡ false = differs.0 in grind (arith, nat_tests)))) ∙ retired)
      ]

  reclaim_still : (serial : Serial) (object : ℕ) → MayChange s (Reclaim serial)
      → StaysRetired s (Reclaim serial) object
  reclaim_still serial object may retired =
      elim (eqb_tells object serial.0) as (λ _. references (changed s (Reclaim serial)) object ≡ 0) [
        | inl same ↦ absurd (both_ways false refl
            (ap is_retired (sym (find_gone (is_object object) (is_object serial.0) s.objects (λ row fails. ap (λ (n : ℕ). row.serial.0 == n) same.1 ∙ fails))) ∙ retired))
        | inr differs ↦ still (Reclaim serial) object may refl
            (sym (ap is_retired (find_left (is_object object) (is_object serial.0) s.objects (λ row here. let other : (object == serial.0) ≡ false = differs.0 in grind (arith, nat_tests)))) ∙ retired)
      ]

  -- what is retired has no references still
  pub retired_kept : (change : Change) → MayChange s change → (object : ℕ)
      → StaysRetired s change object
  retired_kept (PutCapability row) may object retired =
      still (PutCapability row) object may (slot_elsewhere row object may retired) retired
  retired_kept (DropCapability cspace slot) may object retired =
      still (DropCapability cspace slot) object may refl retired
  retired_kept (RevokeCapability cspace slot) may object retired =
      still (RevokeCapability cspace slot) object may refl retired
  retired_kept (AddObject row) may object retired = add_still row object may retired
  retired_kept (SetStage serial stage) may object retired =
      in_place (SetStage serial stage) serial.0 (with_stage stage) object may refl (λ row. refl) (λ row. refl) retired
  retired_kept (Retire serial seen) may object retired = retire_still serial seen object may retired
  retired_kept (Reclaim serial) may object retired = reclaim_still serial object may retired
  retired_kept (GiveQuota partition quota) may object retired =
      still (GiveQuota partition quota) object may refl retired
  retired_kept (AddExtent row) may object retired = span_still row object may retired
  retired_kept (MovePages first count holder) may object retired =
      still (MovePages first count holder) object may refl retired
  retired_kept (PutMapping row) may object retired = map_still row object may retired
  retired_kept (DropMapping row) may object retired =
      still (DropMapping row) object may refl retired
  retired_kept (SetBell row) may object retired = still (SetBell row) object may refl retired
  retired_kept (ConfigureQueue queue depth size cost) may object retired =
      in_place (ConfigureQueue queue depth size cost) queue.0 (with_cost cost) object may refl (λ row. refl) (λ row. refl) retired
  retired_kept (PutMessage queue message) may object retired =
      still (PutMessage queue message) object may refl retired
  retired_kept (DropMessage queue) may object retired =
      still (DropMessage queue) object may refl retired
  retired_kept (EmptyQueue queue) may object retired =
      still (EmptyQueue queue) object may refl retired
  retired_kept (Exit cpu) may object retired = still (Exit cpu) object may refl retired
  retired_kept Ring may object retired = still Ring object may refl retired
  retired_kept (SetPages count) may object retired =
      still (SetPages count) object may refl retired
  retired_kept (AddPartition quota) may object retired = partition_still quota object may retired
  retired_kept (AddRoot row) may object retired = root_still row object may retired
  retired_kept (SetRoom queue depth size) may object retired =
      still (SetRoom queue depth size) object may refl retired
  retired_kept (FillSlot row) may object retired =
      still (FillSlot row) object may (slot_elsewhere row object may retired) retired
  retired_kept (AddCpu row) may object retired = attach_still row object may retired
  retired_kept (AddLink row) may object retired = link_still row object may retired
