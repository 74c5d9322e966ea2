-- Ranks of objects by their serials: how many earlier ones a list has; and the indices of the boot,
-- each object's its own.
use Rattle.std.proofs.Common.{◌≡◌, ◌==◌, ◌+◌, ◌-◌, ◌*◌, ◌<◌, ◌≤◌, ◌∙◌, ◌⊎◌, inl, inr, ℕ, Bool, true, false, not, List, [], ◌∷◌, refl, subst, sym, ap, arith, IsTrue, filter, map, Option, Some, None, find, is_some, if◌then◌else◌}
use Rattle.std.specs.Prelude.{◌&&◌, count_by, nat_le, nat_lt, sum_by}
use Rattle.std.specs.List.{list_all}
use Rattle.std.specs.Option.{option_map_or}
use Rattle.std.proofs.lemmas.Bool.{and_from, and_parts, cases_lt, eqb-true}
use Rattle.std.proofs.lemmas.Bool.Decides.{nat_tests}
use Rattle.std.proofs.lemmas.List.Sums.{sum_by-cons}
use Rattle.gh_base.specs.Kind.{kind_number}
use Rattle.gh_base.specs.declared.kind.Kind.{Kind}
use Rattle.gh_base.specs.declared.kind.Kind.TheVariants as kind
use Rattle.gh_base.specs.declared.limits.TheConstants.{OBJECT_INDICES, PARTITION_PLACES, PARTITION_UNITS, PARTITIONS}
use Rattle.gh_model.specs.Boot.{boot_fits, boot_state, is_of_kind}
use Rattle.gh_model.specs.QueueCalls.{one_if}
use Rattle.gh_model.specs.Rows.{is_object, is_partition, object_row}
use Rattle.gh_model.specs.Units.{lives_in, object_cost, row_quota, used_by}
use Rattle.gh_model.specs.declared.boot_line.BootLine.{BootLine}
use Rattle.gh_model.specs.declared.rows.ObjectRow.{ObjectRow}
use Rattle.gh_model.specs.declared.rows.PartitionRow.{PartitionRow}
use Rattle.gh_model.specs.declared.state.State.{State}
use Rattle.gh_invariant.specs.Lives.{cost_fits, is_housed, lives, quota_fits}
use Rattle.gh_invariant.specs.Valid.{IsValid}
use Rattle.gh_invariant.proofs.BootValid.{boot_valid}
use Rattle.gh_invariant.proofs.Counting.{count_cons, found_all, one_false, one_true}
use Rattle.gh_invariant.proofs.Referred.{found_counted}
use Rattle.gh_schedules.specs.Indices.{boot_index, row_index}
use Rattle.gh_schedules.specs.Places.{boot_place, is_partition_kind}
use Rattle.gh_events.specs.References.{IsRow}
use Rattle.gh_events.specs.Start.{AreIndices}
use Rattle.gh_schedules.proofs.EntryBalance.{lives_some}
use Rattle.gh_events.proofs.EntryMoves.{RowOf, row_of}
use Rattle.gh_events.proofs.Finding.{found_passes, same_number}

-- counts

-- what passes a narrower test, and what passes the wider one alone
pub count_within : (p q : ObjectRow → Bool) (rows : List ObjectRow) → ((row : ObjectRow) → p row ≡ true → q row ≡ true)
    → count_by p rows + count_by (λ (row : ObjectRow). q row && not (p row)) rows ≡ count_by q rows
count_within p q [] within = refl
count_within p q (row ∷ rows) within =
    omega (
      arith,
      count_within p q rows within,
      count_cons p row rows,
      count_cons q row rows,
      count_cons (λ (one : ObjectRow). q one && not (p one)) row rows,
      by_test (p row) (q row) refl refl,
    )
  where
    by_test : (a b : Bool) → p row ≡ a → q row ≡ b → one_if a + one_if (b && not a) ≡ one_if b
    by_test true true first second = refl
    by_test true false first second =
        let passes : q row ≡ true = within row first in absurd (let never : ⊥ = cc in never)
    by_test false true first second = refl
    by_test false false first second = refl

-- objects of a serial below this that pass a test
abbrev rank : (ObjectRow → Bool) → List ObjectRow → ℕ → ℕ
rank test rows serial = count_by (λ (row : ObjectRow). nat_lt row.serial.0 serial && test row) rows

less_on : (a b c : ℕ) (test : Bool) → b ≤ c → (nat_lt a b && test) ≡ true → (nat_lt a c && test) ≡ true
less_on a b c true more less = grind (arith, nat_tests)
less_on a b c false more less = absurd (and_right (nat_lt a b) less)
  where
    and_right : (x : Bool) → (x && false) ≡ true → ⊥
    and_right true is = let never : ⊥ = cc in never
    and_right false is = let never : ⊥ = cc in never

-- an object that passes has a lesser rank than one of a greater serial
rank_less : (test : ObjectRow → Bool) (rows : List ObjectRow) (row : ObjectRow) (serial : ℕ)
    → find (is_object row.serial.0) rows ≡ Some row → test row ≡ true → row.serial.0 < serial
    → rank test rows row.serial.0 < rank test rows serial
rank_less test rows row serial found passes less =
    let rest : count_by (λ (one : ObjectRow). (nat_lt one.serial.0 serial && test one) && not (nat_lt one.serial.0 row.serial.0 && test one)) rows ≡ rank test rows serial - rank test rows row.serial.0 =
    omega (arith, count_within (λ (one : ObjectRow). nat_lt one.serial.0 row.serial.0 && test one) (λ (one : ObjectRow). nat_lt one.serial.0 serial && test one) rows (λ one is. less_on one.serial.0 row.serial.0 serial (test one) (omega (arith, less)) is)) in
    let below : nat_lt row.serial.0 serial ≡ true = grind (arith, nat_tests) in
    let itself : nat_lt row.serial.0 row.serial.0 ≡ false = grind (arith, nat_tests) in
    let one : 1 ≤ count_by (λ (one : ObjectRow). (nat_lt one.serial.0 serial && test one) && not (nat_lt one.serial.0 row.serial.0 && test one)) rows =
    found_counted (is_object row.serial.0) (λ (one : ObjectRow). (nat_lt one.serial.0 serial && test one) && not (nat_lt one.serial.0 row.serial.0 && test one)) rows row found
    (and_from _ _ (and_from _ _ below passes) (ap (λ (b : Bool). not (b && test row)) itself)) in
    omega (arith, rest, one)

-- and less than there are
rank_below : (test : ObjectRow → Bool) (rows : List ObjectRow) (row : ObjectRow)
    → find (is_object row.serial.0) rows ≡ Some row → test row ≡ true
    → rank test rows row.serial.0 < count_by test rows
rank_below test rows row found passes =
    let all : rank test rows row.serial.0 + count_by (λ (one : ObjectRow). test one && not (nat_lt one.serial.0 row.serial.0 && test one)) rows ≡ count_by test rows =
    count_within (λ (one : ObjectRow). nat_lt one.serial.0 row.serial.0 && test one) test rows (λ one is. (and_parts (nat_lt one.serial.0 row.serial.0) (test one) is).1) in
    let itself : nat_lt row.serial.0 row.serial.0 ≡ false = grind (arith, nat_tests) in
    let one : 1 ≤ count_by (λ (one : ObjectRow). test one && not (nat_lt one.serial.0 row.serial.0 && test one)) rows =
    found_counted (is_object row.serial.0) (λ (one : ObjectRow). test one && not (nat_lt one.serial.0 row.serial.0 && test one)) rows row found
    (and_from _ _ passes (ap (λ (b : Bool). not (b && test row)) itself)) in
    omega (arith, all, one)

-- so of two that pass, equal ranks are of one object
same_rank : (test : ObjectRow → Bool) (rows : List ObjectRow) (row other : ObjectRow)
    → find (is_object row.serial.0) rows ≡ Some row → find (is_object other.serial.0) rows ≡ Some other
    → test row ≡ true → test other ≡ true → rank test rows row.serial.0 ≡ rank test rows other.serial.0
    → row.serial.0 ≡ other.serial.0
same_rank test rows row other found also passes too same =
    elim (cases_lt row.serial.0 other.serial.0) as (λ _. row.serial.0 ≡ other.serial.0) [
      | inl less ↦ absurd (omega (arith, rank_less test rows row other.serial.0 found passes less, same))
      | inr more ↦ by_less (cases_lt other.serial.0 row.serial.0) more
    ]
  where
    by_less : (other.serial.0 < row.serial.0) ⊎ (row.serial.0 ≤ other.serial.0) → other.serial.0 ≤ row.serial.0 → row.serial.0 ≡ other.serial.0
    by_less (inl less) more = absurd (omega (arith, rank_less test rows other row.serial.0 also too less, same))
    by_less (inr least) more = omega (arith, least, more)

-- units

-- each object of a partition costs it a unit at least
pub units_count : (partition : ℕ) (test : ObjectRow → Bool) (rows : List ObjectRow)
    → ((row : ObjectRow) → test row ≡ true → 0 < row.cost) → IsTrue (list_all test rows)
    → count_by (lives_in partition) rows ≤ used_by rows partition
units_count partition test [] costs all = omega arith
units_count partition test (row ∷ rows) costs all =
    let parts = and_parts (test row) (list_all test rows) all in
    by_kept (lives_in partition row) refl (costs row parts.0) (units_count partition test rows costs parts.1)
  where
    by_kept : (here : Bool) → lives_in partition row ≡ here → 0 < row.cost → count_by (lives_in partition) rows ≤ used_by rows partition
        → count_by (lives_in partition) (row ∷ rows) ≤ sum_by (λ (n : ℕ). n) (map object_cost (if here then row ∷ filter (lives_in partition) rows else filter (lives_in partition) rows))
    by_kept true is cost rest =
        omega (arith, count_cons (lives_in partition) row rows, one_true (lives_in partition row) is, cost, rest, sum_by-cons (λ (n : ℕ). n) row.cost (map object_cost (filter (lives_in partition) rows)))
    by_kept false is cost rest =
        omega (arith, count_cons (lives_in partition) row rows, one_false (lives_in partition row) is, rest)

pub partition_number : (k : Kind) → is_partition_kind k ≡ (kind_number k == kind_number kind.Partition)
partition_number kind.Partition = refl
partition_number kind.Cspace = refl
partition_number kind.Space = refl
partition_number kind.Extent = refl
partition_number kind.Bell = refl
partition_number kind.Queue = refl

module _ (s : State) (valid : IsValid s) where
  abbrev in_partition : ObjectRow → Bool
  in_partition row = is_partition_kind row.kind

  pub same_count : (p q : ObjectRow → Bool) (rows : List ObjectRow) → ((row : ObjectRow) → p row ≡ q row) → count_by p rows ≡ count_by q rows
  same_count p q [] same = refl
  same_count p q (row ∷ rows) same =
      omega (arith, count_cons p row rows, count_cons q row rows, ap one_if (same row), same_count p q rows same)

  pub few_partitions : count_by in_partition s.objects ≤ PARTITIONS
  few_partitions =
      omega (arith, same_count in_partition (λ (row : ObjectRow). kind_number row.kind == kind_number kind.Partition) s.objects (λ row. partition_number row.kind), valid.objects.partitions)

  -- the partition of an object
  pub record HomeOf (row : ObjectRow) : Type 0 where
    pub home : ObjectRow
    pub is_row : IsRow s home
    pub that : home.serial.0 ≡ row.partition.0
    pub is_partition : is_partition_kind home.kind ≡ true

  home_by : (row : ObjectRow) (found : Option ObjectRow) → object_row s row.partition.0 ≡ found → is_of_kind kind.Partition found ≡ true → HomeOf row
  home_by row None is fits = absurd (let never : ⊥ = cc in never)
  home_by row (Some home) is fits =
      let same : home.serial.0 ≡ row.partition.0 = eqb-true home.serial.0 row.partition.0 (found_passes (is_object row.partition.0) s.objects home is) in
      record {
        home = home;
        is_row = subst (λ (n : ℕ). find (is_object n) s.objects ≡ Some home) (sym same) is;
        that = same;
        is_partition = partition_number home.kind ∙ fits;
      }

  pub home_of : (row : ObjectRow) → IsRow s row → HomeOf row
  home_of row is =
      home_by row (object_row s row.partition.0) refl (found_all (is_object row.serial.0) (is_housed s.objects) s.objects row valid.objects.housed is)

  -- a partition has 128 objects at most
  pub cost_some : (row : ObjectRow) → cost_fits s.partitions s.extents row ≡ true → 0 < row.cost
  cost_some row fits =
      let some : nat_lt 0 row.cost ≡ true = (and_parts (nat_lt 0 row.cost) _ fits).0 in grind (arith, nat_tests)

  pub quota_by : (partition : ℕ) (found : Option PartitionRow) → find (is_partition partition) s.partitions ≡ found
      → row_quota found ≤ PARTITION_UNITS
  quota_by partition None is = omega arith
  quota_by partition (Some row) is =
      let fits : quota_fits s.objects row ≡ true = found_all (is_partition partition) (quota_fits s.objects) s.partitions row valid.units.quotas is in
      let few : nat_le row.quota PARTITION_UNITS ≡ true = (and_parts (nat_le row.quota PARTITION_UNITS) _ fits).0 in
      grind (arith, nat_tests)

  pub lives_few : (partition : ℕ) → 0 < partition → count_by (lives_in partition) s.objects ≤ PARTITION_UNITS
  lives_few partition some =
      omega (
        arith,
        units_count partition (cost_fits s.partitions s.extents) s.objects cost_some valid.units.costs,
        valid.units.within partition some,
        quota_by partition (find (is_partition partition) s.partitions) refl,
      )

  -- the indices by rank

  module _ (row : ObjectRow) (is : IsRow s row) where
    its_home : HomeOf row
    its_home = home_of row is

    place_few : boot_place s row.partition.0 < PARTITIONS
    place_few =
        let less : rank in_partition s.objects its_home.home.serial.0 < count_by in_partition s.objects =
        rank_below in_partition s.objects its_home.home its_home.is_row its_home.is_partition in
        subst (λ (n : ℕ). rank in_partition s.objects n < PARTITIONS) its_home.that (omega (arith, less, few_partitions))

    pub rank_few : rank (lives_in row.partition.0) s.objects row.serial.0 < PARTITION_PLACES
    rank_few =
        let alive : lives s.objects its_home.home.serial.0 ≡ true = ap is_some its_home.is_row in
        let some : 0 < row.partition.0 = subst (λ (n : ℕ). 0 < n) its_home.that (lives_some s valid its_home.home.serial.0 alive) in
        omega (
          arith,
          rank_below (lives_in row.partition.0) s.objects row is (same_number row.partition.0),
          lives_few row.partition.0 some,
        )

  row_within : (row : ObjectRow) → IsRow s row → row_index s row < OBJECT_INDICES
  row_within row is = omega (arith, place_few row is, rank_few row is)

  parts_same : (a b c d : ℕ) → b < 128 → d < 128 → a * 128 + b ≡ c * 128 + d → (a ≡ c) × (b ≡ d)
  parts_same a b c d few also same = (omega (arith, few, also, same), omega (arith, few, also, same))

  row_unique : (row other : ObjectRow) → IsRow s row → IsRow s other → row_index s row ≡ row_index s other
      → row.serial.0 ≡ other.serial.0
  row_unique row other is also same =
      let both = parts_same (boot_place s row.partition.0) (rank (lives_in row.partition.0) s.objects row.serial.0) (boot_place s other.partition.0) (rank (lives_in other.partition.0) s.objects other.serial.0) (rank_few row is) (rank_few other also) same in
      let home : HomeOf row = home_of row is in
      let that : HomeOf other = home_of other also in
      let places : rank in_partition s.objects home.home.serial.0 ≡ rank in_partition s.objects that.home.serial.0 =
      ap (rank in_partition s.objects) home.that ∙ both.0 ∙ sym (ap (rank in_partition s.objects) that.that) in
      let one_home : row.partition.0 ≡ other.partition.0 =
      sym home.that ∙ same_rank in_partition s.objects home.home that.home home.is_row that.is_row home.is_partition that.is_partition places ∙ that.that in
      let ranks : rank (lives_in other.partition.0) s.objects row.serial.0 ≡ rank (lives_in other.partition.0) s.objects other.serial.0 =
      subst (λ (n : ℕ). rank (lives_in n) s.objects row.serial.0 ≡ rank (lives_in other.partition.0) s.objects other.serial.0) one_home both.1 in
      same_rank (lives_in other.partition.0) s.objects row other is also (subst (λ (n : ℕ). (row.partition.0 == n) ≡ true) one_home (same_number row.partition.0)) (same_number other.partition.0) ranks

  pub index_of : (row : ObjectRow) → IsRow s row → boot_index s row.serial.0 ≡ row_index s row
  index_of row is = ap (λ (found : Option ObjectRow). option_map_or (row_index s) found 0) is

  -- a partition's place is the number of earlier ones
  pub place_within : (row : ObjectRow) → IsRow s row → is_partition_kind row.kind ≡ true → boot_place s row.serial.0 < PARTITIONS
  place_within row is part = omega (arith, rank_below in_partition s.objects row is part, few_partitions)

  pub place_alone : (row other : ObjectRow) → IsRow s row → IsRow s other → is_partition_kind row.kind ≡ true → is_partition_kind other.kind ≡ true
      → boot_place s row.serial.0 ≡ boot_place s other.serial.0 → row.serial.0 ≡ other.serial.0
  place_alone row other is also part too same = same_rank in_partition s.objects row other is also part too same

  -- every object that lives has an index that there is, its own
  pub ranked_indices : AreIndices s (boot_index s)
  ranked_indices = record {
    within = λ serial alive. let one : RowOf s serial = row_of s serial alive in subst (λ (n : ℕ). boot_index s n < OBJECT_INDICES) one.serial_is (subst (λ (n : ℕ). n < OBJECT_INDICES) (sym (index_of one.row one.is_row)) (row_within one.row one.is_row));
    unique = λ serial other alive also same. let one : RowOf s serial = row_of s serial alive in let two : RowOf s other = row_of s other also in sym one.serial_is ∙ row_unique one.row two.row one.is_row two.is_row (sym (index_of one.row one.is_row) ∙ ap (boot_index s) one.serial_is ∙ same ∙ sym (ap (boot_index s) two.serial_is) ∙ index_of two.row two.is_row) ∙ two.serial_is;
  }

-- those of a boot file
pub boot_indices : (lines : List BootLine) → IsTrue (boot_fits lines) → AreIndices (boot_state lines) (boot_index (boot_state lines))
boot_indices lines fits = ranked_indices (boot_state lines) (boot_valid lines fits)
