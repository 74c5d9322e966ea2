-- The index that a new object gets, by the indices that a run's progress has.
use Rattle.std.proofs.Common.{◌≡◌, ◌==◌, ◌+◌, ◌<◌, ◌∙◌, not, ℕ, zero, suc, Bool, true, false, List, [], ◌∷◌, refl, ap, arith, Option, Some, find, is_some, slice_get, if◌then◌else◌}
use Rattle.std.specs.Prelude.{◌&&◌, ◌||◌}
use Rattle.std.specs.List.{list_any, range_with_len}
use Rattle.std.specs.Option.{unwrap_or}
use Rattle.gh_base.specs.declared.limits.TheConstants.{PARTITION_PLACES, PARTITIONS}
use Rattle.gh_events.specs.Config.{is_at}
use Rattle.gh_events.proofs.CausesHeld.{stands_found}
use Rattle.gh_events.proofs.Finding.{same_number}
use Rattle.gh_invariant.specs.Lives.{lives}
use Rattle.gh_invariant.specs.Valid.{IsValid}
use Rattle.gh_model.specs.Rows.{is_object}
use Rattle.gh_model.specs.declared.rows.ObjectRow.{ObjectRow}
use Rattle.gh_model.specs.declared.state.State.{State}
use Rattle.gh_items.specs.NewIndex.{index_in_block, least_in, place_for}
use Rattle.gh_schedules.specs.Indices.{block_at, free_index, is_free}
use Rattle.gh_schedules.specs.Places.{has_place, is_free_place, is_partition_kind, new_place}

-- what is found in a range is below its end
pub found_below : (test : ℕ → Bool) (from count at : ℕ) → find test (range_with_len from count) ≡ Some at → at < from + count
found_below test from zero at is = absurd (let never : ⊥ = cc in never)
found_below test from (suc count) at is = by_first (test from) is (λ later. found_below test (from + 1) count at later)
  where
    by_first : (here : Bool) → (if here then Some from else find test (range_with_len (from + 1) count)) ≡ Some at
        → (find test (range_with_len (from + 1) count) ≡ Some at → at < from + 1 + count) → at < from + suc count
    by_first true found rest = let same : from ≡ at = cc in omega (arith, same)
    by_first false found rest = omega (arith, rest found)

-- tests that say the same of each item

find_same : {R : Type 0} (p q : R → Bool) (rows : List R)
    → ((i : ℕ) (row : R) → slice_get rows i ≡ Some row → p row ≡ q row) → find p rows ≡ find q rows
find_same p q [] same = refl
find_same p q (row ∷ rows) same =
    ap (λ (b : Bool). if b then Some row else find p rows) (same 0 row refl)
    ∙ ap (λ (found : Option _). if q row then Some row else found) (find_same p q rows (λ i one is. same (suc i) one is))

any_same : {R : Type 0} (p q : R → Bool) (rows : List R)
    → ((i : ℕ) (row : R) → slice_get rows i ≡ Some row → p row ≡ q row) → list_any p rows ≡ list_any q rows
any_same p q [] same = refl
any_same p q (row ∷ rows) same =
    ap (λ (b : Bool). b || list_any p rows) (same 0 row refl)
    ∙ ap (λ (others : Bool). q row || others) (any_same p q rows (λ i one is. same (suc i) one is))

-- an object of the state was made

pub row_lives : (s : State) → IsValid s → (i : ℕ) (row : ObjectRow) → slice_get s.objects i ≡ Some row → lives s.objects row.serial.0 ≡ true
row_lives s valid i row is =
    ap is_some (stands_found (is_object row.serial.0) s.objects i row is (same_number row.serial.0) (valid.objects.once row.serial.0))

-- where objects that live have the same indices and the same places, a new one gets the same

module _ (s : State) (valid : IsValid s) where
  module _ (index other : ℕ → ℕ) (same : (serial : ℕ) → lives s.objects serial ≡ true → index serial ≡ other serial) where
    free_same : (at : ℕ) → is_free s index at ≡ is_free s other at
    free_same at =
        ap (λ (found : Option ObjectRow). not (is_some found))
        (find_same (is_at index at) (is_at other at) s.objects (λ i row is. ap (λ (n : ℕ). n == at) (same row.serial.0 (row_lives s valid i row is))))

    pub new_same : (place : ℕ) → index_in_block s index place ≡ unwrap_or (free_index s other place) 0
    unfolding least_in
    new_same place =
        ap (λ (found : Option ℕ). unwrap_or found 0)
        (find_same (is_free s index) (is_free s other) (range_with_len (block_at place) PARTITION_PLACES) (λ i at is. free_same at))

  module _ (places other : ℕ → ℕ) (same : (serial : ℕ) → lives s.objects serial ≡ true → places serial ≡ other serial) where
    place_same : (place : ℕ) → is_free_place s places place ≡ is_free_place s other place
    place_same place =
        ap not
        (any_same (has_place places place) (has_place other place) s.objects
        (λ i row is. ap (λ (n : ℕ). is_partition_kind row.kind && (n == place)) (same row.serial.0 (row_lives s valid i row is))))

    pub place_is_new : place_for s places ≡ new_place s other
    unfolding least_in
    place_is_new =
        ap (λ (found : Option ℕ). unwrap_or found 0)
        (find_same (is_free_place s places) (is_free_place s other) (range_with_len 0 PARTITIONS) (λ i place is. place_same place))
