-- The reclaim of an object leaves other partitions' units within their quotas, and its own none.
use Rattle.std.proofs.Common.{◌≡◌, ◌+◌, ◌≤◌, ◌<◌, ◌∙◌, ◌&&◌, ◌==◌, ℕ, Bool, true, false, not, List, refl, ap, arith, IsTrue, Option, Some, None, find, nat_le, if◌then◌else◌}
use Rattle.std.specs.Prelude.{count_by, sum_by}
use Rattle.std.proofs.lemmas.Bool.{and_parts, eqb-true}
use Rattle.std.proofs.lemmas.Bool.Decides.{nat_tests}
use Rattle.std.proofs.lemmas.List.Folds.{sum_by-zero}
use Rattle.gh_base.specs.declared.limits.TheConstants.{PARTITION_UNITS}
use Rattle.gh_model.specs.Changes.{without}
use Rattle.gh_model.specs.References.{is_inhabitant_of}
use Rattle.gh_model.specs.Rows.{is_extent, is_object, is_partition}
use Rattle.gh_model.specs.Units.{given_by, is_given_by, lives_in, row_quota, used_by}
use Rattle.gh_model.specs.declared.rows.ExtentRow.{ExtentRow}
use Rattle.gh_model.specs.declared.rows.ObjectRow.{ObjectRow}
use Rattle.gh_model.specs.declared.rows.PartitionRow.{PartitionRow}
use Rattle.gh_invariant.specs.Lives.{cost_fits, giver, lives_under, quota_fits}
use Rattle.gh_invariant.specs.Valid.{UnitsFit}
use Rattle.gh_invariant.proofs.Counting.{found_all, found_passes, none_fail}
use Rattle.gh_invariant.proofs.RowsLeft.{all_left, find_left}
use Rattle.gh_invariant.proofs.RowsTested.{all_uncounted, other_number}
use Rattle.gh_invariant.proofs.UnitsMoved.{cost_in, given_sum, given_without, quota_in, used_sum, used_without}

no_number : (here : Bool) (n : ℕ) → here ≡ false → ((if here then n else 0) == 0) ≡ true
no_number true n is = absurd (let never : ⊥ = cc in never)
no_number false n is = refl

elsewhere : (here itself : Bool) → itself ≡ false → (here && not itself) ≡ false → here ≡ false
elsewhere false itself other none = refl
elsewhere true true other none = absurd (let never : ⊥ = cc in never)
elsewhere true false other none = none

module _ (objects : List ObjectRow) (partitions : List PartitionRow) (extents : List ExtentRow)
    (object : ℕ) (some : 0 < object) (empty : count_by (is_inhabitant_of object) objects ≡ 0)
    (fit : UnitsFit objects partitions extents) where
  -- nothing lives in it
  none_used : used_by (without (is_object object) objects) object ≡ 0
  none_used =
      used_sum (without (is_object object) objects) object
      ∙ eqb-true (sum_by (cost_in object) (without (is_object object) objects)) 0
      (sum_by-zero (cost_in object) (without (is_object object) objects)
      ∙ all_uncounted (cost_fits partitions extents)
      (λ (row : ObjectRow). cost_in object row == 0) (is_inhabitant_of object)
      (is_object object) objects
      (λ row stays away fits.
      no_number (lives_in object row) row.cost
      (elsewhere (lives_in object row) (is_object object row) stays away)) empty fit.costs)

  -- a partition that it gave a quota lives in it
  gave_by : (row : PartitionRow) (found : Option ObjectRow)
      → find (is_object row.serial.0) objects ≡ found → is_partition object row ≡ false
      → is_given_by object row ≡ true → IsTrue (lives_under (giver row) found) → ⊥
  gave_by row None is other gives under = (let never : ⊥ = cc in never)
  gave_by row (Some one) is other gives under =
      let own : (one.serial.0 == row.serial.0) ≡ true =
      found_passes (is_object row.serial.0) objects one is in
      let away : IsTrue (not (is_inhabitant_of object one)) =
      found_all (is_object row.serial.0)
      (λ (other : ObjectRow). not (is_inhabitant_of object other)) objects one
      (none_fail (is_inhabitant_of object) objects empty) is in
      grind (arith, nat_tests)

  gave_none : (row : PartitionRow) → is_partition object row ≡ false
      → IsTrue (quota_fits objects row) → IsTrue (quota_in object row == 0)
  gave_none row other fits = gave_here (is_given_by object row) refl
    where
      gave_here : (here : Bool) → is_given_by object row ≡ here
          → ((if here then row.quota else 0) == 0) ≡ true
      gave_here true is =
          absurd (gave_by row (find (is_object row.serial.0) objects) refl other is
          (and_parts (nat_le row.quota PARTITION_UNITS)
          (lives_under (giver row) (find (is_object row.serial.0) objects)) fits).1)
      gave_here false is = refl

  -- and it gave no quota
  none_given : given_by (without (is_partition object) partitions) object ≡ 0
  none_given =
      given_sum (without (is_partition object) partitions) object
      ∙ eqb-true (sum_by (quota_in object) (without (is_partition object) partitions)) 0
      (sum_by-zero (quota_in object) (without (is_partition object) partitions)
      ∙ all_left (quota_fits objects) (λ (row : PartitionRow). quota_in object row == 0)
      (is_partition object) partitions gave_none fit.quotas)

  left_within : (once : count_by (is_object object) objects ≤ 1)
      → (once_partition : count_by (is_partition object) partitions ≤ 1) → (n : ℕ) (here : Bool)
      → 0 < n → (n == object) ≡ here
      → used_by (without (is_object object) objects) n
      + given_by (without (is_partition object) partitions) n
      ≤ row_quota (find (is_partition n) (without (is_partition object) partitions))
  left_within once once_partition n true above is =
      let same : n ≡ object = eqb-true n object is in
      let used : used_by (without (is_object object) objects) n ≡ 0 = rw same none_used in
      let given : given_by (without (is_partition object) partitions) n ≡ 0 = rw same none_given in
      omega arith
  left_within once once_partition n false above other =
      let same : row_quota (find (is_partition n) (without (is_partition object) partitions))
      ≡ row_quota (find (is_partition n) partitions) =
      ap row_quota
      (find_left (is_partition n) (is_partition object) partitions
      (λ row is. other_number row.serial.0 n object other is)) in
      omega (
        arith,
        fit.within n above,
        used_without (is_object object) objects n once,
        given_without (is_partition object) partitions n once_partition,
      )

  quota_left : (row : PartitionRow) → is_partition object row ≡ false
      → IsTrue (quota_fits objects row)
      → IsTrue (quota_fits (without (is_object object) objects) row)
  quota_left row other fits =
      rw (find_left (is_object row.serial.0) (is_object object) objects
      (λ one is. other_number one.serial.0 row.serial.0 object other is)) fits

  cost_left : (row : ObjectRow) → is_object object row ≡ false
      → IsTrue (cost_fits partitions extents row)
      → IsTrue (cost_fits (without (is_partition object) partitions)
      (without (is_extent object) extents) row)
  cost_left row other fits =
      rw (find_left (is_partition row.serial.0) (is_partition object) partitions
      (λ one is. other_number one.serial.0 row.serial.0 object other is))
      (rw (find_left (is_extent row.serial.0) (is_extent object) extents
      (λ one is. other_number one.serial.0 row.serial.0 object other is)) fits)

  -- an object that nothing lives in goes with its rows
  pub reclaim_keeps_units : count_by (is_object object) objects ≤ 1
      → count_by (is_partition object) partitions ≤ 1
      → UnitsFit (without (is_object object) objects) (without (is_partition object) partitions)
      (without (is_extent object) extents)
  reclaim_keeps_units once once_partition = record {
    within = λ n above. left_within once once_partition n (n == object) above refl;
    quotas = all_left (quota_fits objects) (quota_fits (without (is_object object) objects))
        (is_partition object) partitions quota_left fit.quotas;
    costs = all_left (cost_fits partitions extents)
        (cost_fits (without (is_partition object) partitions) (without (is_extent object) extents))
        (is_object object) objects cost_left fit.costs;
  }
