-- Each change leaves what a partition uses and gives within its quota, and quotas and costs in
-- order.
use Rattle.std.proofs.Common.{◌≡◌, ◌+◌, ◌≤◌, ◌<◌, ◌∙◌, ◌==◌, ℕ, Bool, true, false, List, [], ◌∷◌, ◌++◌, refl, subst, sym, ap, arith, IsTrue, Option, Some, find, option_map, nat_le, nat_lt, if◌then◌else◌}
use Rattle.std.specs.Prelude.{count_by}
use Rattle.std.specs.List.{list_all}
use Rattle.std.proofs.lemmas.Bool.{and_from, and_parts, eqb-true, le-leb, lt-ltb}
use Rattle.std.proofs.lemmas.Bool.Decides.{nat_tests}
use Rattle.gh_base.specs.declared.ids.Serial.{Serial}
use Rattle.gh_base.specs.declared.kind.Stage.{Stage}
use Rattle.gh_base.specs.declared.limits.TheConstants.{PARTITION_UNITS}
use Rattle.gh_model.specs.Changes.{with_cost, with_counters, with_quota, with_stage}
use Rattle.gh_model.specs.Decisions.{is_init_stage}
use Rattle.gh_model.specs.Rows.{change_row, is_extent, is_object, is_partition}
use Rattle.gh_model.specs.Units.{given_by, is_given_by, lives_in, rest_units, row_quota, used_by}
use Rattle.gh_model.specs.declared.rows.ExtentRow.{ExtentRow}
use Rattle.gh_model.specs.declared.rows.ObjectRow.{ObjectRow}
use Rattle.gh_model.specs.declared.rows.PartitionRow.{PartitionRow}
use Rattle.gh_invariant.specs.Lives.{cost_fits, giver, lives_under, quota_fits}
use Rattle.gh_invariant.specs.Valid.{UnitsFit}
use Rattle.gh_invariant.proofs.Counting.{all_by, find_push_other}
use Rattle.gh_invariant.proofs.ChangedRow.{all_change, find_change_seen, find_past_change}
use Rattle.gh_invariant.proofs.ObjectsFit.{KeepsPlace}
use Rattle.gh_invariant.proofs.RowsTested.{all_change_found, all_pinned, other_number}
use Rattle.gh_invariant.proofs.Summing.{number_found}
use Rattle.gh_invariant.proofs.UnitsMoved.{cost_in, given_change, quota_in, used_change, used_kept}

-- the objects' rows change, but for what quotas are said of

module _ (q : ObjectRow → Bool) (change : ObjectRow → ObjectRow) (keeps : KeepsPlace change)
    (objects : List ObjectRow) (partitions : List PartitionRow) where
  under_kept : (parent serial : ℕ)
      → lives_under parent (find (is_object serial) (change_row q change objects))
      ≡ lives_under parent (find (is_object serial) objects)
  under_kept parent serial =
      find_change_seen (lives_under parent) (is_object serial) q change objects
      (λ row. ap (λ (s : Serial). s.0 == serial) (keeps.serial row))
      (λ row. ap (λ (s : Serial). s.0 == parent) (keeps.partition row))

  quota_kept : (row : PartitionRow) → IsTrue (quota_fits objects row)
      → IsTrue (quota_fits (change_row q change objects) row)
  quota_kept row fits =
      rw (under_kept (giver row) row.serial.0) fits

  -- quotas are in order as before
  quotas_kept : IsTrue (list_all (quota_fits objects) partitions)
      → IsTrue (list_all (quota_fits (change_row q change objects)) partitions)
  quotas_kept all =
      all_by (quota_fits objects) (quota_fits (change_row q change objects)) partitions quota_kept
      all

-- a stage that isn't INIT asks nothing of the cost but that there is one
pub cost_staged : (partitions : List PartitionRow) (extents : List ExtentRow) (row : ObjectRow)
    → 0 < row.cost → is_init_stage row.stage ≡ false → IsTrue (cost_fits partitions extents row)
cost_staged partitions extents row some stage =
    and_from (nat_lt 0 row.cost) _ (lt-ltb 0 row.cost some) (rw stage refl)

cost_some : (partitions : List PartitionRow) (extents : List ExtentRow) (row : ObjectRow)
    → IsTrue (cost_fits partitions extents row) → 0 < row.cost
cost_some partitions extents row fits = grind (arith, nat_tests)

module _ (objects : List ObjectRow) (partitions : List PartitionRow) (extents : List ExtentRow)
    (fit : UnitsFit objects partitions extents) where
  -- an object comes to another stage
  pub stage_keeps_units : (q : ObjectRow → Bool) (stage : Stage) → is_init_stage stage ≡ false
      → UnitsFit (change_row q (with_stage stage) objects) partitions extents
  stage_keeps_units q stage configured = record {
    within = λ partition above.
        rw (used_kept q (with_stage stage) objects partition (λ row. refl))
        (fit.within partition above);
    quotas = quotas_kept q (with_stage stage)
        (record { serial = λ row. refl; kind = λ row. refl; partition = λ row. refl }) objects
        partitions fit.quotas;
    costs = all_change (cost_fits partitions extents) q (with_stage stage) objects
        (λ row is fits.
        cost_staged partitions extents (with_stage stage row)
        (cost_some partitions extents row fits) configured) fit.costs;
  }

  -- an object is retired
  pub retire_keeps_units : (q : ObjectRow → Bool) (seen : List ℕ)
      → UnitsFit (change_row q (with_counters seen) objects) partitions extents
  retire_keeps_units q seen = record {
    within = λ partition above.
        rw (used_kept q (with_counters seen) objects partition (λ row. refl))
        (fit.within partition above);
    quotas = quotas_kept q (with_counters seen)
        (record { serial = λ row. refl; kind = λ row. refl; partition = λ row. refl }) objects
        partitions fit.quotas;
    costs = all_change (cost_fits partitions extents) q (with_counters seen) objects
        (λ row is fits. fits) fit.costs;
  }

module _ (objects : List ObjectRow) (partitions : List PartitionRow) (extents : List ExtentRow)
    (fit : UnitsFit objects partitions extents) (row : ObjectRow) (q : ObjectRow → Bool)
    (found : find q objects ≡ Some row) (cost : ℕ) (one : row.cost ≡ 1) (some : 0 < cost)
    (enough : cost ≤ rest_units objects partitions row.partition.0 + 1)
    (stage : is_init_stage row.stage ≡ false) where
  cost_moved : (partition : ℕ) (here : Bool) → lives_in partition row ≡ here
      → used_by (change_row q (with_cost cost) objects) partition + (if here then row.cost else 0)
      ≡ used_by objects partition + (if here then cost else 0)
  cost_moved partition here is =
      let old : number_found (cost_in partition) (find q objects) ≡ (if here then row.cost else 0) =
      ap (number_found (cost_in partition)) found
      ∙ ap (λ (b : Bool). if b then row.cost else 0) is in
      let new : number_found (cost_in partition) (option_map (with_cost cost) (find q objects))
      ≡ (if here then cost else 0) =
      ap (λ (o : Option ObjectRow).
      number_found (cost_in partition) (option_map (with_cost cost) o)) found
      ∙ ap (λ (b : Bool). if b then cost else 0) is in
      omega (arith, used_change q (with_cost cost) objects partition)

  cost_within : (partition : ℕ) (here : Bool) → 0 < partition → lives_in partition row ≡ here
      → used_by (change_row q (with_cost cost) objects) partition + given_by partitions partition
      ≤ row_quota (find (is_partition partition) partitions)
  cost_within partition true above is =
      let free : cost ≤ rest_units objects partitions partition + 1 =
      subst (λ (n : ℕ). cost ≤ rest_units objects partitions n + 1)
      (eqb-true row.partition.0 partition is) enough in
      let moved : used_by (change_row q (with_cost cost) objects) partition + row.cost
      ≡ used_by objects partition + cost = cost_moved partition true is in
      omega (arith, fit.within partition above)
  cost_within partition false above is =
      let moved : used_by (change_row q (with_cost cost) objects) partition + 0
      ≡ used_by objects partition + 0 = cost_moved partition false is in
      omega (arith, fit.within partition above)

  -- a queue's cost comes from its partition's free units
  pub configure_keeps_units : UnitsFit (change_row q (with_cost cost) objects) partitions extents
  configure_keeps_units = record {
    within = λ partition above. cost_within partition (lives_in partition row) above refl;
    quotas = quotas_kept q (with_cost cost)
        (record { serial = λ row. refl; kind = λ row. refl; partition = λ row. refl }) objects
        partitions fit.quotas;
    costs = all_change_found (cost_fits partitions extents) q (with_cost cost) objects
        (λ other is fits.
        cost_staged partitions extents (with_cost cost other) some (same_stage other is))
        fit.costs;
  }
    where
      same_stage : (other : ObjectRow) → find q objects ≡ Some other
          → is_init_stage other.stage ≡ false
      same_stage other is =
          (let same : row ≡ other =
          cc in ap (λ (o : ObjectRow). is_init_stage o.stage) (sym same) ∙ stage)

-- a partition's quota comes from the free units of the one that it lives in

module _ (objects : List ObjectRow) (partitions : List PartitionRow) (extents : List ExtentRow)
    (fit : UnitsFit objects partitions extents)
    (once : (serial : ℕ) → count_by (is_object serial) objects ≤ 1) (row : PartitionRow)
    (partition quota : ℕ) (found : find (is_partition partition) partitions ≡ Some row)
    (none : row.quota ≡ 0) (small : quota ≤ PARTITION_UNITS)
    (enough : quota ≤ rest_units objects partitions row.parent.0) where
  rises_by : (n : ℕ) (here : Bool) → (n == partition) ≡ here
      → row_quota (find (is_partition n) partitions)
      ≤ row_quota
      (find (is_partition n) (change_row (is_partition partition) (with_quota quota) partitions))
  rises_by n true is =
      let same : n ≡ partition = eqb-true n partition is in
      let old : row_quota (find (is_partition n) partitions) ≡ 0 =
      ap (λ (m : ℕ). row_quota (find (is_partition m) partitions)) same ∙ ap row_quota found
      ∙ none in
      omega arith
  rises_by n false other =
      let same : row_quota
      (find (is_partition n)
      (change_row (is_partition partition) (with_quota quota) partitions))
      ≡ row_quota (find (is_partition n) partitions) =
      ap row_quota
      (find_past_change (is_partition n) (is_partition partition) (with_quota quota) partitions
      (λ one is. other_number one.serial.0 n partition other is)
      (λ one is. other_number one.serial.0 n partition other is)) in
      omega arith

  quota_moved : (n : ℕ) (here : Bool) → is_given_by n row ≡ here
      → given_by (change_row (is_partition partition) (with_quota quota) partitions) n
      + (if here then row.quota else 0) ≡ given_by partitions n + (if here then quota else 0)
  quota_moved n here is =
      let old : number_found (quota_in n) (find (is_partition partition) partitions)
      ≡ (if here then row.quota else 0) =
      ap (number_found (quota_in n)) found ∙ ap (λ (b : Bool). if b then row.quota else 0) is in
      let new : number_found (quota_in n)
      (option_map (with_quota quota) (find (is_partition partition) partitions))
      ≡ (if here then quota else 0) =
      ap (λ (o : Option PartitionRow).
      number_found (quota_in n) (option_map (with_quota quota) o)) found
      ∙ ap (λ (b : Bool). if b then quota else 0) is in
      omega (arith, given_change (is_partition partition) (with_quota quota) partitions n)

  quota_within : (n : ℕ) (here : Bool) → 0 < n → is_given_by n row ≡ here
      → used_by objects n
      + given_by (change_row (is_partition partition) (with_quota quota) partitions) n
      ≤ row_quota
      (find (is_partition n) (change_row (is_partition partition) (with_quota quota) partitions))
  quota_within n true above is =
      let free : quota ≤ rest_units objects partitions n =
      subst (λ (m : ℕ). quota ≤ rest_units objects partitions m) (eqb-true row.parent.0 n is)
      enough in
      let moved : given_by (change_row (is_partition partition) (with_quota quota) partitions) n
      + row.quota ≡ given_by partitions n + quota = quota_moved n true is in
      omega (arith, fit.within n above, rises_by n (n == partition) refl)
  quota_within n false above is =
      let moved : given_by (change_row (is_partition partition) (with_quota quota) partitions) n + 0
      ≡ given_by partitions n + 0 = quota_moved n false is in
      omega (arith, fit.within n above, rises_by n (n == partition) refl)

  module _ (stage : (object : ObjectRow) → find (is_object partition) objects ≡ Some object
      → is_init_stage object.stage ≡ false) where
    -- a partition gets its quota once it is configured
    pub give_keeps_units : UnitsFit objects
        (change_row (is_partition partition) (with_quota quota) partitions) extents
    give_keeps_units = record {
      within = λ n above. quota_within n (is_given_by n row) above refl;
      quotas = all_change (quota_fits objects) (is_partition partition) (with_quota quota)
          partitions
          (λ one is fits.
          and_from (nat_le quota PARTITION_UNITS) _ (le-leb quota PARTITION_UNITS small)
          (and_parts (nat_le one.quota PARTITION_UNITS)
          (lives_under (giver one) (find (is_object one.serial.0) objects)) fits).1) fit.quotas;
      costs = all_pinned (cost_fits partitions extents)
          (cost_fits (change_row (is_partition partition) (with_quota quota) partitions) extents)
          (is_object partition) objects (once partition)
          (λ object is fits.
          cost_staged (change_row (is_partition partition) (with_quota quota) partitions)
          extents object (cost_some partitions extents object fits) (stage object is))
          (λ object other fits.
          rw (find_past_change (is_partition object.serial.0) (is_partition partition)
          (with_quota quota) partitions
          (λ one is. other_number one.serial.0 object.serial.0 partition other is)
          (λ one is. other_number one.serial.0 object.serial.0 partition other is)) fits)
          fit.costs;
    }

-- an extent that is no longer new gets its span
pub span_keeps_units : (objects : List ObjectRow) (partitions : List PartitionRow)
    (extents : List ExtentRow) (row : ExtentRow) (object : ObjectRow)
    → UnitsFit objects partitions extents → ((serial : ℕ) → count_by (is_object serial) objects ≤ 1)
    → find (is_object row.serial.0) objects ≡ Some object → is_init_stage object.stage ≡ false
    → UnitsFit objects partitions (extents ++ row ∷ [])
span_keeps_units objects partitions extents row object fit once found stage = record {
  within = fit.within;
  quotas = fit.quotas;
  costs = all_pinned (cost_fits partitions extents) (cost_fits partitions (extents ++ row ∷ []))
      (is_object row.serial.0) objects (once row.serial.0)
      (λ one is fits.
      cost_staged partitions (extents ++ row ∷ []) one (cost_some partitions extents one fits)
      (same_stage one is))
      (λ one other fits.
      rw (find_push_other (is_extent one.serial.0) extents row (turned one.serial.0 other))
      fits) fit.costs;
}
  where
    turned : (n : ℕ) → (n == row.serial.0) ≡ false → (row.serial.0 == n) ≡ false
    turned n other = grind (arith, nat_tests)

    same_stage : (one : ObjectRow) → find (is_object row.serial.0) objects ≡ Some one
        → is_init_stage one.stage ≡ false
    same_stage one is =
        (let same : object ≡ one =
        cc in ap (λ (o : ObjectRow). is_init_stage o.stage) (sym same) ∙ stage)
