-- A new object finds a free index: its partition's block has more indices than the partition can pay
-- objects, and there are more blocks than partitions.
use Rattle.std.proofs.Common.{◌≡◌, ◌==◌, ◌+◌, ◌*◌, ◌<◌, ◌≤◌, ◌∙◌, inl, inr, ℕ, zero, suc, Bool, true, false, not, List, [], ◌∷◌, refl, subst, sym, ap, arith, Option, Some, None, find, is_some, if◌then◌else◌}
use Rattle.std.specs.Prelude.{◌&&◌, ◌||◌, count_by, nat_le, nat_lt}
use Rattle.std.specs.List.{list_any, range_with_len}
use Rattle.std.specs.Option.{unwrap_or}
use Rattle.std.proofs.lemmas.Bool.{and_from, and_parts, eqb-true}
use Rattle.std.proofs.lemmas.Bool.Decides.{eqb_tells, nat_tests}
use Rattle.gh_base.specs.declared.kind.Kind.{Kind}
use Rattle.gh_base.specs.declared.kind.Kind.TheVariants as kind
use Rattle.gh_base.specs.declared.limits.TheConstants.{OBJECT_INDICES, PARTITIONS}
use Rattle.gh_base.specs.Kind.{kind_number}
use Rattle.gh_model.specs.Boot.{is_of_kind}
use Rattle.gh_model.specs.ObjectCalls.{is_full}
use Rattle.gh_model.specs.QueueCalls.{one_if}
use Rattle.gh_model.specs.Rows.{is_object, is_partition, object_row}
use Rattle.gh_model.specs.Units.{given_by, is_given_by, lives_in, partition_quota, row_quota, used_by}
use Rattle.gh_model.specs.declared.rows.ObjectRow.{ObjectRow}
use Rattle.gh_model.specs.declared.rows.PartitionRow.{PartitionRow}
use Rattle.gh_model.specs.declared.state.State.{State}
use Rattle.gh_invariant.specs.Lives.{cost_fits, giver, lives_under, quota_fits}
use Rattle.gh_invariant.specs.Premises.{MayAdd}
use Rattle.gh_invariant.specs.Valid.{IsValid}
use Rattle.gh_invariant.proofs.Counting.{count_cons, found_all, found_one, one_true}
use Rattle.gh_invariant.proofs.Referred.{found_counted}
use Rattle.gh_events.specs.Config.{is_at, object_at}
use Rattle.gh_schedules.specs.Indices.{InBlocks, block_at, free_index, is_free, new_index, place_of}
use Rattle.gh_schedules.specs.Places.{free_place, has_place, is_free_place, is_partition_kind, new_place}
use Rattle.gh_events.specs.References.{IsRow}
use Rattle.gh_events.specs.Start.{AreIndices}
use Rattle.gh_events.proofs.Boxes.{Each, more_pass}
use Rattle.gh_events.proofs.CausesHeld.{stands_found}
use Rattle.gh_schedules.proofs.EntryBalance.{lives_some}
use Rattle.gh_events.proofs.EntryMoves.{there_index}
use Rattle.gh_events.proofs.Finding.{found_passes, same_number}
use Rattle.gh_events.proofs.GraceTurn.{found_fails}
use Rattle.gh_schedules.proofs.KilledNone.{own_row}
use Rattle.gh_schedules.proofs.Ranks.{HomeOf, cost_some, count_within, home_of, partition_number, quota_by, same_count, units_count}

-- an index that there is, where no object lives
pub record IsFreeAt (s : State) (index : ℕ → ℕ) (at : ℕ) : Type 0 where
  pub within : at < OBJECT_INDICES
  pub uninhabited : object_at s index at ≡ None

-- an index of the block at a place, where no object lives
pub record IsNewIndex (s : State) (index : ℕ → ℕ) (place at : ℕ) : Type 0 where
  pub free : IsFreeAt s index at
  pub there : place_of at ≡ place

-- a place that no partition has
pub record IsNewPlace (s : State) (places : ℕ → ℕ) (at : ℕ) : Type 0 where
  pub within : at < PARTITIONS
  pub alone : (row : ObjectRow) → IsRow s row → is_partition_kind row.kind ≡ true
      → places row.serial.0 ≡ at → ⊥

-- a search in a range

none_in : (test : ℕ → Bool) (count from : ℕ) → find test (range_with_len from count) ≡ None
    → (i : ℕ) → i < count → test (from + i) ≡ false
none_in test zero from none i few = absurd (omega (arith, few))
none_in test (suc count) from none i few = by_first (test from) refl none i few (λ later. none_in test count (from + 1) later)
  where
    by_first : (here : Bool) → test from ≡ here → (if here then Some from else find test (range_with_len (from + 1) count)) ≡ None
        → (j : ℕ) → j < suc count → (find test (range_with_len (from + 1) count) ≡ None → (k : ℕ) → k < count → test (from + 1 + k) ≡ false)
        → test (from + j) ≡ false
    by_first true is none j few rest = absurd (let never : ⊥ = cc in never)
    by_first false is none zero few rest = ap test (let same : from + 0 ≡ from = omega arith in same) ∙ is
    by_first false is none (suc j) few rest =
        ap test (let same : from + suc j ≡ from + 1 + j = omega arith in same) ∙ rest none j (omega (arith, few))

record FoundIn (test : ℕ → Bool) (from count at : ℕ) : Type 0 where
  passes : test at ≡ true
  low : from ≤ at
  high : at < from + count

some_in : (test : ℕ → Bool) (count from at : ℕ) → find test (range_with_len from count) ≡ Some at → FoundIn test from count at
some_in test zero from at is = absurd (let never : ⊥ = cc in never)
some_in test (suc count) from at is = by_first (test from) refl is (λ later. some_in test count (from + 1) at later)
  where
    by_first : (here : Bool) → test from ≡ here → (if here then Some from else find test (range_with_len (from + 1) count)) ≡ Some at
        → (find test (range_with_len (from + 1) count) ≡ Some at → FoundIn test (from + 1) count at) → FoundIn test from (suc count) at
    by_first true passes is rest =
        let same : from ≡ at = cc in
        record { passes = ap test (sym same) ∙ passes; low = omega (arith, same); high = omega (arith, same) }
    by_first false passes is rest =
        let later : FoundIn test (from + 1) count at = rest is in
        record { passes = later.passes; low = omega (arith, later.low); high = omega (arith, later.high) }

-- as many numbers as are all hit are counted

module _ (number : ObjectRow → ℕ) (keep : ObjectRow → Bool) (base : ℕ) where
  within : ℕ → ObjectRow → Bool
  within count row = keep row && (nat_le base (number row) && nat_lt (number row) (base + count))

  one_step : (row : ObjectRow) (count : ℕ) (kept : Bool)
      → one_if (kept && (nat_le base (number row) && nat_lt (number row) (base + suc count)))
      ≡ one_if (kept && (nat_le base (number row) && nat_lt (number row) (base + count))) + one_if (kept && (number row == base + count))
  one_step row count false = refl
  one_step row count true =
      elim (eqb_tells (number row) (base + count)) as (λ _. one_if (nat_le base (number row) && nat_lt (number row) (base + suc count)) ≡ one_if (nat_le base (number row) && nat_lt (number row) (base + count)) + one_if (number row == base + count)) [
        | inl same ↦ rw (let up : (nat_le base (number row) && nat_lt (number row) (base + suc count)) ≡ true = grind (arith, nat_tests) in up) (rw (let down : (nat_le base (number row) && nat_lt (number row) (base + count)) ≡ false = grind (arith, nat_tests) in down) (rw (let is : (number row == base + count) ≡ true = grind (arith, nat_tests) in is) refl))
        | inr differs ↦ rw (let alike : (nat_le base (number row) && nat_lt (number row) (base + suc count)) ≡ (nat_le base (number row) && nat_lt (number row) (base + count)) = grind (arith, nat_tests) in alike) (rw differs.0 (omega arith))
      ]

  count_step : (count : ℕ) (rows : List ObjectRow)
      → count_by (within (suc count)) rows ≡ count_by (within count) rows + count_by (λ (row : ObjectRow). keep row && (number row == base + count)) rows
  unfolding within
  count_step count [] = refl
  count_step count (row ∷ rows) =
      omega (
        arith,
        count_step count rows,
        count_cons (within (suc count)) row rows,
        count_cons (within count) row rows,
        count_cons (λ (one : ObjectRow). keep one && (number one == base + count)) row rows,
        one_step row count (keep row),
      )

  all_hit : (count : ℕ) (rows : List ObjectRow)
      → ((i : ℕ) → i < count → 1 ≤ count_by (λ (row : ObjectRow). keep row && (number row == base + i)) rows)
      → count ≤ count_by (within count) rows
  all_hit zero rows hit = omega arith
  all_hit (suc count) rows hit =
      omega (arith, count_step count rows, hit count (omega arith), all_hit count rows (λ i few. hit i (omega (arith, few))))

-- where each place of a partition's block is taken

module _ (s : State) (places index : ℕ → ℕ) (valid : IsValid s) (blocks : InBlocks s places index) where
  own : Each (λ (row : ObjectRow). IsRow s row) s.objects
  own i row is = stands_found (is_object row.serial.0) s.objects i row is (same_number row.serial.0) (valid.objects.once row.serial.0)

  module _ (home : ObjectRow) (is_home : IsRow s home) (part : is_partition_kind home.kind ≡ true) where
    abbrev number : ObjectRow → ℕ
    number row = index row.serial.0

    -- what has an index of the block lives in the partition
    in_block : (row : ObjectRow) → IsRow s row → (true && (nat_le (block_at (places home.serial.0)) (index row.serial.0) && nat_lt (index row.serial.0) (block_at (places home.serial.0) + 128))) ≡ true
        → lives_in home.serial.0 row ≡ true
    in_block row is there =
        let its : HomeOf s valid row = home_of s valid row is in
        let there_too : places its.home.serial.0 ≡ places home.serial.0 = ap places its.that ∙ sym (blocks.each row is) ∙ place in
        let same : its.home.serial.0 ≡ home.serial.0 = blocks.apart its.home home its.is_row is_home its.is_partition part there_too in
        let in_home : row.partition.0 ≡ home.serial.0 = sym its.that ∙ same in
        subst (λ (n : ℕ). (row.partition.0 == n) ≡ true) in_home (same_number row.partition.0)
      where
        place : place_of (index row.serial.0) ≡ places home.serial.0
        place =
            let both = and_parts (nat_le (block_at (places home.serial.0)) (index row.serial.0)) (nat_lt (index row.serial.0) (block_at (places home.serial.0) + 128)) there in
            let low : places home.serial.0 * 128 ≤ index row.serial.0 = grind (arith, nat_tests, both.0) in
            let high : index row.serial.0 < places home.serial.0 * 128 + 128 = grind (arith, nat_tests, both.1) in
            omega (arith, low, high)

    block_few : count_by (within number (λ row. true) (block_at (places home.serial.0)) 128) s.objects ≤ count_by (lives_in home.serial.0) s.objects
    unfolding within
    block_few =
        more_pass (λ (row : ObjectRow). true && (nat_le (block_at (places home.serial.0)) (index row.serial.0) && nat_lt (index row.serial.0) (block_at (places home.serial.0) + 128))) (lives_in home.serial.0) s.objects
        (λ i row is. in_block row (own i row is))

    -- each of its objects costs a unit at least
    used_most : count_by (lives_in home.serial.0) s.objects ≤ used_by s.objects home.serial.0
    used_most = units_count home.serial.0 (cost_fits s.partitions s.extents) s.objects (cost_some s valid) valid.units.costs

    -- so the block has a free index
    taken_hit : (found : Option ObjectRow) (i : ℕ) → object_at s index i ≡ found → not (is_some found) ≡ false
        → 1 ≤ count_by (λ (row : ObjectRow). true && (index row.serial.0 == i)) s.objects
    taken_hit None i is taken = absurd (let never : ⊥ = cc in never)
    taken_hit (Some row) i is taken = found_one (λ (one : ObjectRow). index one.serial.0 == i) s.objects row is

    record FreeIn : Type 0 where
      at : ℕ
      is : free_index s index (places home.serial.0) ≡ Some at
      found : FoundIn (is_free s index) (block_at (places home.serial.0)) 128 at

    free_by : (cost : ℕ) → 0 < cost
        → used_by s.objects home.serial.0 + given_by s.partitions home.serial.0 + cost ≤ row_quota (find (is_partition home.serial.0) s.partitions)
        → (found : Option ℕ) → free_index s index (places home.serial.0) ≡ found → FreeIn
    free_by cost some fits None none =
        let full : 128 ≤ count_by (within number (λ row. true) (block_at (places home.serial.0)) 128) s.objects =
        all_hit number (λ row. true) (block_at (places home.serial.0)) 128 s.objects
        (λ i few. taken_hit (object_at s index (block_at (places home.serial.0) + i)) (block_at (places home.serial.0) + i) refl (none_in (is_free s index) 128 (block_at (places home.serial.0)) none i few)) in
        absurd (omega (arith, full, block_few, used_most, fits, some, quota_by s valid home.serial.0 (find (is_partition home.serial.0) s.partitions) refl))
    free_by cost some fits (Some at) is =
        record { at = at; is = is; found = some_in (is_free s index) 128 (block_at (places home.serial.0)) at is }

    free_there : (at : ℕ) → is_free s index at ≡ true → object_at s index at ≡ None
    free_there at free = by_found (object_at s index at) refl free
      where
        by_found : (found : Option ObjectRow) → object_at s index at ≡ found → not (is_some found) ≡ true → object_at s index at ≡ None
        by_found None is none = is
        by_found (Some row) is none = absurd (let never : ⊥ = cc in never)

    -- the index that a new object gets
    pub block_free : (cost : ℕ) → 0 < cost
        → used_by s.objects home.serial.0 + given_by s.partitions home.serial.0 + cost ≤ row_quota (find (is_partition home.serial.0) s.partitions)
        → IsNewIndex s index (places home.serial.0) (new_index s places index home.serial.0)
    block_free cost some fits =
        let free : FreeIn = free_by cost some fits (free_index s index (places home.serial.0)) refl in
        let same : new_index s places index home.serial.0 ≡ free.at = ap (λ (found : Option ℕ). unwrap_or found 0) free.is in
        subst (IsNewIndex s index (places home.serial.0)) (sym same) record {
          free = record {
            within = (let below : places home.serial.0 < 8 = blocks.few home is_home part in omega (arith, below, free.found.high));
            uninhabited = free_there free.at free.found.passes;
          };
          there = (let low : places home.serial.0 * 128 ≤ free.at = free.found.low in let high : free.at < places home.serial.0 * 128 + 128 = free.found.high in omega (arith, low, high));
        }

  -- a new partition: there are fewer than places
  abbrev in_kind : ObjectRow → Bool
  in_kind row = is_partition_kind row.kind

  abbrev place : ObjectRow → ℕ
  place row = places row.serial.0

  any_hit : (p : ObjectRow → Bool) (rows : List ObjectRow) → list_any p rows ≡ true → 1 ≤ count_by p rows
  any_hit p [] any = absurd (let never : ⊥ = cc in never)
  any_hit p (row ∷ rows) any = by_first (p row) refl any (any_hit p rows)
    where
      by_first : (here : Bool) → p row ≡ here → (here || list_any p rows) ≡ true → (list_any p rows ≡ true → 1 ≤ count_by p rows) → 1 ≤ count_by p (row ∷ rows)
      by_first true is some rest = omega (arith, count_cons p row rows, one_true (p row) is)
      by_first false is some rest = omega (arith, count_cons p row rows, rest some)

  unfree : (b : Bool) → not b ≡ false → b ≡ true
  unfree true is = refl
  unfree false is = absurd (let never : ⊥ = cc in never)

  kind_within : count_by (within place in_kind 0 8) s.objects ≤ count_by in_kind s.objects
  unfolding within
  kind_within =
      more_pass (λ (row : ObjectRow). in_kind row && (nat_le 0 (place row) && nat_lt (place row) (0 + 8))) in_kind s.objects
      (λ i row is passes. (and_parts (in_kind row) _ passes).0)

  record FreePlace : Type 0 where
    at : ℕ
    is : free_place s places ≡ Some at
    found : FoundIn (is_free_place s places) 0 8 at

  place_by : count_by in_kind s.objects < 8 → (found : Option ℕ) → free_place s places ≡ found → FreePlace
  place_by few None none =
      let full : 8 ≤ count_by (within place in_kind 0 8) s.objects =
      all_hit place in_kind 0 8 s.objects
      (λ i less. any_hit (λ (row : ObjectRow). in_kind row && (place row == 0 + i)) s.objects (unfree (list_any (has_place places (0 + i)) s.objects) (none_in (is_free_place s places) 8 0 none i less))) in
      absurd (omega (arith, full, kind_within, few))
  place_by few (Some at) is = record { at = at; is = is; found = some_in (is_free_place s places) 8 0 at is }

  -- no partition has a free place
  no_place : (at : ℕ) → is_free_place s places at ≡ true → (row : ObjectRow) → IsRow s row → is_partition_kind row.kind ≡ true
      → place row ≡ at → ⊥
  no_place at free row is part there =
      let hit : has_place places at row ≡ true = and_from _ _ part (subst (λ (n : ℕ). (place row == n) ≡ true) there (same_number (place row))) in
      let fails : has_place places at row ≡ false = found_fails (is_object row.serial.0) (has_place places at) s.objects row (none_of_any (list_any (has_place places at) s.objects) free) is in
      let never : ⊥ = cc in never
    where
      none_of_any : (b : Bool) → not b ≡ true → b ≡ false
      none_of_any true is_free = absurd (let never : ⊥ = cc in never)
      none_of_any false is_free = refl

  place_free : count_by in_kind s.objects < 8 → IsNewPlace s places (new_place s places)
  place_free few =
      let free : FreePlace = place_by few (free_place s places) refl in
      subst (IsNewPlace s places) (sym (ap (λ (found : Option ℕ). unwrap_or found 0) free.is)) record {
        within = omega (arith, free.found.high);
        alone = no_place free.at free.found.passes;
      }

  -- an object that may be added
  not_full : (k : Kind) → is_partition_kind k ≡ true → is_full s k ≡ false → count_by in_kind s.objects < 8
  not_full kind.Partition part room =
      let same : count_by in_kind s.objects ≡ count_by (λ (row : ObjectRow). kind_number row.kind == kind_number kind.Partition) s.objects =
      same_count s valid in_kind (λ (row : ObjectRow). kind_number row.kind == kind_number kind.Partition) s.objects (λ row. partition_number row.kind) in
      let below : count_by (λ (row : ObjectRow). kind_number row.kind == kind_number kind.Partition) s.objects < 8 = grind (arith, nat_tests) in
      omega (arith, same, below)
  not_full kind.Cspace part room = absurd (let never : ⊥ = cc in never)
  not_full kind.Space part room = absurd (let never : ⊥ = cc in never)
  not_full kind.Extent part room = absurd (let never : ⊥ = cc in never)
  not_full kind.Bell part room = absurd (let never : ⊥ = cc in never)
  not_full kind.Queue part room = absurd (let never : ⊥ = cc in never)

  module _ (row : ObjectRow) (may : MayAdd s row) where
    home_found : (found : Option ObjectRow) → object_row s row.partition.0 ≡ found → is_of_kind kind.Partition found ≡ true
        → IsNewIndex s index (places row.partition.0) (new_index s places index row.partition.0)
    home_found None is fits = absurd (let never : ⊥ = cc in never)
    home_found (Some home) is fits =
        let that : home.serial.0 ≡ row.partition.0 = eqb-true home.serial.0 row.partition.0 (found_passes (is_object row.partition.0) s.objects home is) in
        subst (λ (n : ℕ). IsNewIndex s index (places n) (new_index s places index n)) that
        (block_free home (subst (λ (n : ℕ). find (is_object n) s.objects ≡ Some home) (sym that) is) (partition_number home.kind ∙ fits) row.cost may.some
        (subst (λ (n : ℕ). used_by s.objects n + given_by s.partitions n + row.cost ≤ row_quota (find (is_partition n) s.partitions)) (sym that)
        (omega (arith, may.units, may.some))))

    -- finds a free index in the block of its partition
    pub new_at : IsNewIndex s index (places row.partition.0) (new_index s places index row.partition.0)
    new_at = home_found (object_row s row.partition.0) refl may.partition

    -- and a partition finds a place
    pub new_placed : is_partition_kind row.kind ≡ true → IsNewPlace s places (new_place s places)
    new_placed part = place_free (not_full row.kind part may.room)
