-- An object more leaves what a partition uses and gives within its quota, and quotas and costs
-- in order.
use Rattle.std.proofs.Common.{◌≡◌, ◌+◌, ◌≤◌, ◌<◌, ◌∙◌, ◌&&◌, ◌||◌, ◌==◌, ℕ, Bool, true, false, not, List, [], ◌∷◌, ◌++◌, refl, subst, sym, ap, arith, IsTrue, Option, Some, None, find, nat_le, nat_lt, if◌then◌else◌}
use Rattle.std.specs.Prelude.{is_some}
use Rattle.std.specs.List.{list_all}
use Rattle.std.specs.Option.{option_or}
use Rattle.std.proofs.lemmas.Bool.{and_from, and_parts, eq-eqb, eqb-true, lt-ltb}
use Rattle.std.proofs.lemmas.List.Folds.{find-append, list_all-append}
use Rattle.gh_base.specs.declared.ids.Serial.{Serial}
use Rattle.gh_base.specs.declared.kind.Kind.{Kind}
use Rattle.gh_base.specs.declared.kind.Kind.TheVariants as kind
use Rattle.gh_base.specs.declared.limits.TheConstants.{PARTITION_UNITS}
use Rattle.gh_model.specs.Changes.{new_partitions}
use Rattle.gh_model.specs.Decisions.{is_init_stage}
use Rattle.gh_model.specs.Rows.{is_extent, is_object, is_partition}
use Rattle.gh_model.specs.Units.{given_by, lives_in, rest_units, row_quota, used_by}
use Rattle.gh_model.specs.declared.rows.ExtentRow.{ExtentRow}
use Rattle.gh_model.specs.declared.rows.ObjectRow.{ObjectRow}
use Rattle.gh_model.specs.declared.rows.PartitionRow.{PartitionRow}
use Rattle.gh_invariant.specs.Lives.{cost_fits, giver, is_new, lives_under, quota_fits}
use Rattle.gh_invariant.specs.Valid.{UnitsFit}
use Rattle.gh_invariant.proofs.Counting.{all_by, all_push, find_push, find_push_new}
use Rattle.gh_invariant.proofs.UnitsMoved.{given_push, used_push}

-- quotas

new_quota : (here : Bool) (row : PartitionRow) → row.quota ≡ 0
    → row_quota (if here then Some row else None) ≡ 0
new_quota true row none = none
new_quota false row none = refl

-- what a new object adds has no quota
no_new_quota : (k : Kind) (serial parent : Serial) (n : ℕ)
    → row_quota (find (is_partition n) (new_partitions k serial parent)) ≡ 0
no_new_quota kind.Partition serial parent n =
    new_quota (serial.0 == n) (record { serial = serial; parent = parent; quota = 0 }) refl
no_new_quota kind.Cspace serial parent n = refl
no_new_quota kind.Space serial parent n = refl
no_new_quota kind.Extent serial parent n = refl
no_new_quota kind.Bell serial parent n = refl
no_new_quota kind.Queue serial parent n = refl

quota_or : (old new : Option PartitionRow) → row_quota new ≡ 0
    → row_quota (option_or old new) ≡ row_quota old
quota_or None new none = none
quota_or (Some row) new none = refl

-- so quotas are as before
quota_beside : (partitions : List PartitionRow) (k : Kind) (serial parent : Serial) (n : ℕ)
    → row_quota (find (is_partition n) (partitions ++ new_partitions k serial parent))
    ≡ row_quota (find (is_partition n) partitions)
quota_beside partitions k serial parent n =
    ap row_quota (find-append (is_partition n) partitions (new_partitions k serial parent))
    ∙ quota_or (find (is_partition n) partitions)
    (find (is_partition n) (new_partitions k serial parent)) (no_new_quota k serial parent n)

under_or : (parent : ℕ) (old new : Option ObjectRow) → IsTrue (lives_under parent old)
    → IsTrue (lives_under parent (option_or old new))
under_or parent None new under = absurd (let never : ⊥ = cc in never)
under_or parent (Some row) new under = under

pub quota_stays : (objects : List ObjectRow) (object : ObjectRow) (row : PartitionRow)
    → IsTrue (quota_fits objects row) → IsTrue (quota_fits (objects ++ object ∷ []) row)
quota_stays objects object row fits =
    let parts : (nat_le row.quota PARTITION_UNITS ≡ true) ×
    (lives_under (giver row) (find (is_object row.serial.0) objects) ≡ true) =
    and_parts _ _ fits in
    and_from _ _ parts.0
    (rw (find_push (is_object row.serial.0) objects object)
    (under_or (giver row) (find (is_object row.serial.0) objects)
    (find (is_object row.serial.0) (object ∷ [])) parts.1))

-- costs

new_kind : (k : Kind) (cost : ℕ) (old now : Option PartitionRow) (extent : Option ExtentRow)
    → row_quota now ≡ row_quota old → is_new k cost now extent ≡ is_new k cost old extent
new_kind kind.Partition cost old now extent same = ap (λ (n : ℕ). n == 0) same
new_kind kind.Cspace cost old now extent same = refl
new_kind kind.Space cost old now extent same = refl
new_kind kind.Extent cost old now extent same = refl
new_kind kind.Bell cost old now extent same = refl
new_kind kind.Queue cost old now extent same = refl

cost_stays : (partitions : List PartitionRow) (extents : List ExtentRow) (k : Kind)
    (serial parent : Serial) (row : ObjectRow)
    → cost_fits (partitions ++ new_partitions k serial parent) extents row
    ≡ cost_fits partitions extents row
cost_stays partitions extents k serial parent row =
    ap (λ (new : Bool). nat_lt 0 row.cost && (not (is_init_stage row.stage) || new))
    (new_kind row.kind row.cost (find (is_partition row.serial.0) partitions)
    (find (is_partition row.serial.0) (partitions ++ new_partitions k serial parent))
    (find (is_extent row.serial.0) extents)
    (quota_beside partitions k serial parent row.serial.0))

fresh_kind : (k : Kind) (cost : ℕ) (partition : Option PartitionRow) (extent : Option ExtentRow)
    → partition ≡ None → extent ≡ None → cost ≡ 1 → IsTrue (is_new k cost partition extent)
fresh_kind kind.Partition cost partition extent none also one =
    ap (λ (o : Option PartitionRow). row_quota o == 0) none
fresh_kind kind.Cspace cost partition extent none also one = refl
fresh_kind kind.Space cost partition extent none also one = refl
fresh_kind kind.Extent cost partition extent none also one =
    ap (λ (o : Option ExtentRow). not (is_some o)) also
fresh_kind kind.Bell cost partition extent none also one = refl
fresh_kind kind.Queue cost partition extent none also one = eq-eqb cost 1 one

fresh_stage : (init new : Bool) → (init ≡ true → new ≡ true) → IsTrue (not init || new)
fresh_stage true new is = is refl
fresh_stage false new is = refl

module _ (objects : List ObjectRow) (partitions : List PartitionRow) (extents : List ExtentRow)
    (row : ObjectRow) (fit : UnitsFit objects partitions extents)
    (unmade : find (is_object row.serial.0) objects ≡ None) where
  module _ (home : (row.partition.0 == 0) ≡ false) where
    home_is : (n : ℕ) → n ≡ row.partition.0
        → lives_under n (find (is_object row.serial.0) (objects ++ row ∷ [])) ≡ true
    home_is n is =
        ap (lives_under n)
        (find_push_new (is_object row.serial.0) objects row unmade
        (eq-eqb row.serial.0 row.serial.0 refl)) ∙ eq-eqb row.partition.0 n (sym is)

    parent_is : (if row.partition.0 == 0 then row.serial.0 else row.partition.0) ≡ row.partition.0
    parent_is = rw home refl

    new_fits : (k : Kind)
        → IsTrue (list_all (quota_fits (objects ++ row ∷ []))
        (new_partitions k row.serial row.partition))
    new_fits kind.Partition =
        and_from _ true
        (and_from (nat_le 0 PARTITION_UNITS)
        (lives_under (if row.partition.0 == 0 then row.serial.0 else row.partition.0)
        (find (is_object row.serial.0) (objects ++ row ∷ []))) refl
        (home_is (if row.partition.0 == 0 then row.serial.0 else row.partition.0) parent_is))
        refl
    new_fits kind.Cspace = refl
    new_fits kind.Space = refl
    new_fits kind.Extent = refl
    new_fits kind.Bell = refl
    new_fits kind.Queue = refl

    -- a new partition's quota is none yet, and it lives in the one that may give it
    quotas_beside : (k : Kind)
        → IsTrue (list_all (quota_fits (objects ++ row ∷ []))
        (partitions ++ new_partitions k row.serial row.partition))
    quotas_beside k =
        list_all-append (quota_fits (objects ++ row ∷ [])) partitions
        (new_partitions k row.serial row.partition)
        ∙ and_from _ _
        (all_by (quota_fits objects) (quota_fits (objects ++ row ∷ [])) partitions
        (quota_stays objects row) fit.quotas) (new_fits k)

    module _ (some : 0 < row.cost)
        (enough : row.cost ≤ rest_units objects partitions row.partition.0)
        (one : IsTrue (is_init_stage row.stage) → row.cost ≡ 1)
        (no_partition : find (is_partition row.serial.0) partitions ≡ None)
        (no_extent : find (is_extent row.serial.0) extents ≡ None) where
      cost_beside : (n : ℕ) (here : Bool) → 0 < n → lives_in n row ≡ here
          → used_by objects n + (if here then row.cost else 0) + given_by partitions n
          ≤ row_quota (find (is_partition n) partitions)
      cost_beside n true above is =
          let free : row.cost ≤ rest_units objects partitions n =
          subst (λ (m : ℕ). row.cost ≤ rest_units objects partitions m)
          (eqb-true row.partition.0 n is) enough in
          omega (arith, fit.within n above)
      cost_beside n false above is = omega (arith, fit.within n above)

      -- an object whose cost its partition has
      pub add_keeps_units : UnitsFit (objects ++ row ∷ [])
          (partitions ++ new_partitions row.kind row.serial row.partition) extents
      add_keeps_units = record {
        within = λ n above.
            omega (
              arith,
              used_push objects row n,
              given_push partitions row.kind row.serial
                  row.partition n,
              quota_beside partitions row.kind row.serial row.partition n,
              cost_beside n (lives_in n row) above refl,
            );
        quotas = quotas_beside row.kind;
        costs = all_push
            (cost_fits (partitions ++ new_partitions row.kind row.serial row.partition) extents)
            objects row
            (all_by (cost_fits partitions extents)
            (cost_fits (partitions ++ new_partitions row.kind row.serial row.partition) extents)
            objects (λ other fits.
            cost_stays partitions extents row.kind row.serial row.partition other ∙ fits)
            fit.costs)
            (cost_stays partitions extents row.kind row.serial row.partition row
            ∙ and_from (nat_lt 0 row.cost) _ (lt-ltb 0 row.cost some)
            (fresh_stage (is_init_stage row.stage)
            (is_new row.kind row.cost (find (is_partition row.serial.0) partitions)
            (find (is_extent row.serial.0) extents))
            (λ init. fresh_kind row.kind row.cost (find (is_partition row.serial.0) partitions)
            (find (is_extent row.serial.0) extents) no_partition no_extent (one init))));
      }
