-- The partition places follow the live partitions.
use Rattle.std.proofs.Common.{◌≡◌, ◌≢◌, ℕ, ◌<◌, Bool, true, false}
use Rattle.std.proofs.Common.{List, Option, None, Some, is_some, length, get_or}
use Rattle.std.proofs.Common.{set, count_by, replicate, cond, ltb, refl, sym, ap}
use Rattle.std.proofs.Common.{◌∙◌, inl, inr, arith, eqb-true, eq-eqb, ne_eqb}
use Rattle.std.specs.Prelude.{position, if◌then◌else◌}
use Rattle.std.proofs.lemmas.Bool.{cases_eq, ltb-true}
use Rattle.std.proofs.lemmas.List.{get_or-set_same, get_or-set_other, length-set, length-replicate}
use Rattle.std.proofs.lemmas.List.Folds.{sum_by-replicate}
use Rattle.std.proofs.lemmas.List.Sums.{passes_at_first}
use Rattle.std.proofs.lemmas.Option.{none-some, same_Some}
use Rattle.gh_base.specs.declared.ids.ObjIndex.{ObjIndex}
use Rattle.gh_base.specs.declared.limits.TheConstants.{OBJECT_INDICES, PARTITIONS}
use Rattle.gh_objects.specs.declared.header.Header.{Header}
use Rattle.gh_objects.specs.Headers.{header_at, is_partition, is_had_by, place_of}
use Rattle.gh_objects.specs.Partitions.{place_if}
use Rattle.gh_objects.specs.Partitions.{HavePlaces}
use Rattle.gh_objects.proofs.ListLemmas.{position-count, count_by-set, replicate-at}

-- a place that one partition has is had, and by no other
had-is_some : (index : ℕ) (had : Option ObjIndex) → is_had_by index had ≡ true → is_some had ≡ true
had-is_some index None none = none
had-is_some index (Some partition) has = refl

had-other : (index other : ℕ) (had : Option ObjIndex) → is_had_by index had ≡ true → other ≢ index → is_had_by other had ≡ false
had-other index other None none apart = refl
had-other index other (Some partition) has apart = ne_eqb partition.0 other (λ same. apart (sym same ∙ eqb-true partition.0 index has))

-- a count of one or none is above none exactly where it is one
ltb-one : (b : Bool) → ltb 0 (if b then 1 else 0) ≡ b
ltb-one true = refl
ltb-one false = refl

cond-place_if : (b : Bool) (place : ℕ) → cond b (Some place) None ≡ place_if b place
cond-place_if true place = refl
cond-place_if false place = refl

-- what the variant of a place says
pub place_if-Some : (b : Bool) (place home : ℕ) → Some home ≡ place_if b place → (b ≡ true) × (home ≡ place)
place_if-Some true place home is = (refl, same_Some home place is)
place_if-Some false place home is = absurd (none-some home (sym is))

pub place_if-None : (b : Bool) (place : ℕ) → None ≡ place_if b place → b ≡ false
place_if-None true place is = absurd (none-some place is)
place_if-None false place is = refl

module _ (headers : List (Option Header)) (partitions : List (Option ObjIndex)) (have : HavePlaces headers partitions) where
  -- a place is found for a live partition, and for no other index
  found : (index : ℕ) → ltb (place_of partitions index) (length partitions) ≡ is_partition (header_at headers index)
  found index = position-count (is_had_by index) partitions ∙ ap (ltb 0) (have.one_each index) ∙ ltb-one (is_partition (header_at headers index))

  pub position-place_if : (index : ℕ) → position (is_had_by index) partitions ≡ place_if (is_partition (header_at headers index)) (place_of partitions index)
  position-place_if index = rw (found index) (cond-place_if (is_partition (header_at headers index)) (place_of partitions index))

  module _ (index : ℕ) (object : Option Header) (within : index < length headers) where
    -- what is a partition elsewhere stays one
    elsewhere : (other : ℕ) → other ≢ index → is_partition (header_at (set headers index object) other) ≡ is_partition (header_at headers other)
    elsewhere other apart = ap is_partition (get_or-set_other headers index other object None apart)

    here : is_partition (header_at (set headers index object) index) ≡ is_partition object
    here = ap is_partition (get_or-set_same headers index object None within)

    -- an index where the object changes and remains a partition, or remains none
    pub HavePlaces-same : is_partition object ≡ is_partition (header_at headers index) → HavePlaces (set headers index object) partitions
    HavePlaces-same same = record {
      indices = length-set headers index object ∙ have.indices;
      places = have.places;
      one_each = λ other.
          have.one_each other ∙
          elim (cases_eq other index) [
            | inl at ↦ rw (at, here, same) refl
            | inr apart ↦ ap (λ b. if b then 1 else 0) (sym (elsewhere other apart))
          ];
      as_many = omega (arith, have.as_many, rw same at (count_by-set is_partition headers index object None within));
    }

    -- a new partition gets a place that none has
    pub HavePlaces-new : (place : ℕ) → place < length partitions → get_or partitions place None ≡ None → is_partition (header_at headers index) ≡ false → is_partition object ≡ true
        → HavePlaces (set headers index object) (set partitions place (Some (record { 0 = index })))
    HavePlaces-new place there free before after =
        let new : Option ObjIndex = Some (record { 0 = index }) in
        record {
          indices = length-set headers index object ∙ have.indices;
          places = length-set partitions place new ∙ have.places;
          one_each = λ other.
              elim (cases_eq other index) [
                | inl at ↦ rw (at, here, after) (omega (arith, rw (free, eq-eqb index index refl) at (count_by-set (is_had_by index) partitions place new None there), rw before at (have.one_each index)))
                | inr apart ↦ rw (elsewhere other apart) (omega (arith, rw (free, ne_eqb index other (λ same. apart (sym same))) at (count_by-set (is_had_by other) partitions place new None there), have.one_each other))
              ];
          as_many = omega (arith, have.as_many, rw free at (count_by-set is_some partitions place new None there), rw (before, after) at (count_by-set is_partition headers index object None within));
        }

    -- a partition that goes leaves its place
    pub HavePlaces-gone : is_partition (header_at headers index) ≡ true → is_partition object ≡ false → HavePlaces (set headers index object) (set partitions (place_of partitions index) None)
    HavePlaces-gone before after =
        let place = place_of partitions index in
        let there : place < length partitions = ltb-true place (length partitions) (found index ∙ before) in
        let has = passes_at_first (is_had_by index) partitions None there in
        record {
          indices = length-set headers index object ∙ have.indices;
          places = length-set partitions place None ∙ have.places;
          one_each = λ other.
              elim (cases_eq other index) [
                | inl at ↦ rw (at, here, after) (omega (arith, rw has at (count_by-set (is_had_by index) partitions place None None there), rw before at (have.one_each index)))
                | inr apart ↦ rw (elsewhere other apart) (omega (arith, rw (had-other index other _ has apart) at (count_by-set (is_had_by other) partitions place None None there), have.one_each other))
              ];
          as_many =
              omega (
                arith,
                have.as_many,
                rw (had-is_some index _ has) at (count_by-set is_some partitions place None None there),
                rw (before, after) at (count_by-set is_partition headers index object None within),
              );
        }

-- no partition has a place where no object lives
pub HavePlaces-none : (headers : List (Option Header)) (partitions : List (Option ObjIndex))
    → headers ≡ replicate OBJECT_INDICES None
    → partitions ≡ replicate PARTITIONS None
    → HavePlaces headers partitions
HavePlaces-none headers partitions none free = record {
  indices = ap length none ∙ length-replicate {A = Option Header} OBJECT_INDICES None;
  places = ap length free ∙ length-replicate {A = Option ObjIndex} PARTITIONS None;
  one_each = λ index. no_count (is_had_by index) partitions PARTITIONS refl free ∙ rw (replicate-at None OBJECT_INDICES headers none index) refl;
  as_many = no_count is_some partitions PARTITIONS refl free ∙ sym (no_count is_partition headers OBJECT_INDICES refl none);
}
  where
    no_count : {X : Type 0} (p : Option X → Bool) (xs : List (Option X)) (count : ℕ) → p None ≡ false → xs ≡ replicate count None → count_by p xs ≡ 0
    no_count p xs count fails is = rw is (sum_by-replicate (λ x. cond (p x) 1 0) count None ∙ rw fails (omega arith))
