-- The partition of an object that goes: it is another object, and gave a partition its quota.
use Rattle.std.proofs.Common.{◌≡◌, ◌≢◌, ◌<◌, ◌≤◌, ◌+◌, ◌∙◌, ℕ, Bool, true, false, Option, Some, None, refl, sym, ap, subst, arith, find, IsTrue}
use Rattle.std.specs.Prelude.{count_by}
use Rattle.std.proofs.lemmas.Bool.{and_parts, eqb-true, ltb-true, ne_eqb}
use Rattle.gh_base.specs.declared.ids.Serial.{Serial}
use Rattle.gh_base.specs.declared.kind.Kind.TheVariants as kind
use Rattle.gh_invariant.proofs.Counting.{count_unfound, found_all, found_passes, one_true}
use Rattle.gh_invariant.proofs.Summing.{number_found}
use Rattle.gh_invariant.proofs.UnitsMoved.{cost_in, given_without, quota_in, used_without}
use Rattle.gh_invariant.specs.Lives.{cost_fits, giver, is_housed, lives_as, lives_under, quota_fits}
use Rattle.gh_model.specs.Changes.{without}
use Rattle.gh_model.specs.QueueCalls.{one_if}
use Rattle.gh_model.specs.Rows.{is_object, is_partition}
use Rattle.gh_model.specs.Units.{given_by, row_quota, used_by}
use Rattle.gh_model.specs.declared.rows.ObjectRow.{ObjectRow}
use Rattle.gh_model.specs.declared.rows.PartitionRow.{PartitionRow}
use Rattle.gh_model.specs.declared.state.State.{State}
use Rattle.gh_parts.specs.declared.parts.Parts.{Parts}
use Rattle.gh_parts.proofs.Leaving.{Leaves, parent_some}
use Rattle.gh_parts.proofs.Living.{There, object_some}
use Rattle.gh_parts.proofs.StandsQuota.{costs_in, counts_in}

one_or_none : (b : Bool) → one_if b ≤ 1
one_or_none true = let one : one_if true ≡ 1 = refl in omega arith
one_or_none false = let none : one_if false ≡ 0 = refl in omega arith

module _ (parts : Parts) (s : State) (object : Serial) (leaves : Leaves parts s object.0) where
  abbrev row : ObjectRow
  row = leaves.row

  abbrev home : ℕ
  home = row.partition.0

  abbrev found : Option PartitionRow
  found = find (is_partition object.0) s.partitions

  -- it has one row at most
  pub once : count_by (is_partition object.0) s.partitions ≤ 1
  once =
      omega (arith, leaves.valid.rows.partitions object.0, one_or_none (lives_as s.objects object.0 kind.Partition))

  -- a partition's quota came from the one that it lives in
  pub given_home : (one : PartitionRow) → found ≡ Some one → one.parent.0 ≡ home
  given_home one is =
      let fits : lives_under (giver one) (find (is_object one.serial.0) s.objects) ≡ true =
      (and_parts _ _ (found_all (is_partition object.0) (quota_fits s.objects) s.partitions one leaves.valid.units.quotas is)).1 in
      let serial : one.serial.0 ≡ object.0 = eqb-true one.serial.0 object.0 (found_passes (is_partition object.0) s.partitions one is) in
      let from : giver one ≡ one.parent.0 = rw (ne_eqb one.parent.0 0 (parent_some parts s object.0 leaves one is)) refl in
      let under : lives_under one.parent.0 (Some row) ≡ true =
      subst (λ (o : Option ObjectRow). lives_under one.parent.0 o ≡ true) leaves.found
      (subst (λ (n : ℕ). lives_under n (find (is_object object.0) s.objects) ≡ true) from
      (subst (λ (n : ℕ). lives_under (giver one) (find (is_object n) s.objects) ≡ true) serial fits)) in
      sym (eqb-true row.partition.0 one.parent.0 under)

  -- a partition has a row
  row_by : IsTrue (lives_as s.objects object.0 kind.Partition) → (one : Option PartitionRow) → found ≡ one
      → There found
  row_by lives None is =
      absurd (omega (
        arith,
        leaves.valid.rows.partitions object.0,
        one_true (lives_as s.objects object.0 kind.Partition) lives,
        count_unfound (is_partition object.0) s.partitions is,
      ))
  row_by lives (Some one) is = record { it = one; is = is }

  cost_some : 0 < row.cost
  cost_some =
      ltb-true 0 row.cost
      ((and_parts _ _ (found_all (is_object object.0) (cost_fits s.partitions s.extents) s.objects row leaves.valid.units.costs leaves.found)).0)

  -- an object that lives in itself gave itself its quota, which leaves no unit for it
  own_home : home ≡ object.0 → ⊥
  own_home same =
      let housed : IsTrue (lives_as s.objects object.0 kind.Partition) =
      subst (λ (n : ℕ). lives_as s.objects n kind.Partition ≡ true) same
      (found_all (is_object object.0) (is_housed s.objects) s.objects row leaves.valid.objects.housed leaves.found) in
      let one : There found = row_by housed found refl in
      let used : used_by (without (is_object object.0) s.objects) object.0 + cost_in object.0 row ≡ used_by s.objects object.0 =
      subst (λ (o : Option ObjectRow). used_by (without (is_object object.0) s.objects) object.0 + number_found (cost_in object.0) o ≡ used_by s.objects object.0)
      leaves.found (used_without (is_object object.0) s.objects object.0 (leaves.valid.objects.once object.0)) in
      let given : given_by (without (is_partition object.0) s.partitions) object.0 + quota_in object.0 one.it ≡ given_by s.partitions object.0 =
      subst (λ (o : Option PartitionRow). given_by (without (is_partition object.0) s.partitions) object.0 + number_found (quota_in object.0) o ≡ given_by s.partitions object.0)
      one.is (given_without (is_partition object.0) s.partitions object.0 once) in
      omega (
        arith,
        used,
        given,
        costs_in object.0 row same,
        counts_in object.0 one.it (given_home one.it one.is ∙ same),
        leaves.valid.units.within object.0 (object_some (s.entries + 1) s leaves.valid object.0 row leaves.found),
        ap row_quota one.is,
        cost_some,
      )

  -- the partition is another object
  pub home_other : home ≢ object.0
  home_other same = own_home same
