-- Names that are put into a rising list, taken out of it and looked for, and how they follow the
-- headers.
use Rattle.std.proofs.Common.{◌≡◌, ◌≢◌, ℕ, zero, suc, ◌+◌, ◌/◌, ◌%◌}
use Rattle.std.proofs.Common.{◌<◌, ◌≤◌, Bool, true, false, List, [], ◌∷◌, Option}
use Rattle.std.proofs.Common.{None, Some, is_some, length, get_or, set, replicate, cond, eqb, ltb}
use Rattle.std.proofs.Common.{refl, sym, ap, ◌∙◌, arith, inl, inr, eqb-true, eq-eqb, ne_eqb}
use Rattle.std.specs.Prelude.{IfSome, IsSomeAnd, is_none, slice_get}
use Rattle.std.specs.List.{insert, remove, Contains, prefix_len, position_or_len}
use Rattle.std.specs.List.Sorted.{IsNonDecreasingBy, IsPartitionPoint}
use Rattle.std.specs.Option.{option_to_list}
use Rattle.std.proofs.lemmas.Bool.{false_from_ne_true, cases_eq}
use Rattle.std.proofs.lemmas.Bool.{cases_lt, lt-ltb, ltb-true, ltb-false}
use Rattle.std.proofs.lemmas.List.{get_or_default, get_or-set_same, get_or-set_other}
use Rattle.std.proofs.lemmas.List.Folds.{sum_by-replicate}
use Rattle.std.proofs.lemmas.List.Elements.{Contains-get_or}
use Rattle.std.proofs.lemmas.List.Sorted.{IsNonDecreasingBy-insert}
use Rattle.std.proofs.lemmas.List.Sums.{prefix_len-le-length, prefix_len_is}
use Rattle.std.proofs.lemmas.List.Sums.{prefix_len_passes, prefix_len_stops, sum_by-insert}
use Rattle.std.proofs.lemmas.List.Sums.{sum_by-remove, count_by-le-length, passes_at_first}
use Rattle.std.proofs.lemmas.Nat.{div-mul-add, mod-mul-add}
use Rattle.std.proofs.lemmas.Option.{none-some}
use Rattle.gh_base.specs.declared.limits.TheConstants.{OBJECT_INDICES}
use Rattle.gh_objects.specs.declared.header.Header.{Header}
use Rattle.gh_objects.specs.declared.names.TheConstants.{INDEX_VALUES}
use Rattle.gh_objects.specs.Headers.{header_at, has_serial}
use Rattle.gh_objects.specs.Names.{itself, times, once_if, name_of, name_at}
use Rattle.gh_objects.specs.Names.{is_name, is_live, index_in, AreNamed, Renames}
use Rattle.gh_objects.proofs.ListLemmas.{position-count, nones-somes, count_by-set}
use Rattle.gh_objects.proofs.ListLemmas.{count_by-passes, is_some-within, replicate-at}

-- how many names are less
abbrev pub place_in : ℕ → List ℕ → ℕ
place_in name names = prefix_len (λ other. ltb other name) names

-- the place is where a binary search ends
pub place_in-partition_point : (name : ℕ) (names : List ℕ) (at : ℕ) → at ≤ length names
    → IsPartitionPoint (λ n. ltb n name ≡ true) (λ n. ltb n name ≡ false) names at → place_in name names ≡ at
place_in-partition_point name names at bound point =
    prefix_len_is (λ n. ltb n name) names at name bound
    (λ k before. point.0 k name (omega arith) before)
    (λ within. point.1 at name (omega arith) within)

module _ (name : ℕ) (names : List ℕ) where
  pub place_in-le-length : place_in name names ≤ length names
  place_in-le-length = prefix_len-le-length (λ n. ltb n name) names

  -- what stands before the place is less
  pub before-less : (k d : ℕ) → k < place_in name names → get_or names k d < name
  before-less k d before = ltb-true _ _ (prefix_len_passes (λ n. ltb n name) names k d before)

  -- what stands at the place isn't
  pub at-not_less : (d : ℕ) → place_in name names < length names → name ≤ get_or names (place_in name names) d
  at-not_less d within = ltb-false _ _ (prefix_len_stops (λ n. ltb n name) names d within)

  -- a name that isn't less and that the list has stands from the place on
  pub Contains-from : (other : ℕ) → Contains names other → name ≤ other → (at : ℕ) × (place_in name names ≤ at) × (at < length names) × (get_or names at other ≡ other)
  Contains-from other has from =
      elim (cases_lt has.0 (place_in name names)) [
        | inl before ↦ absurd (omega (arith, before-less has.0 other before, has.2, from))
        | inr after ↦ (has.0, after, has.1, has.2)
      ]

  pub IsNonDecreasingBy-insert_place : IsNonDecreasingBy itself names → IsNonDecreasingBy itself (insert names (place_in name names) name)
  IsNonDecreasingBy-insert_place up =
      IsNonDecreasingBy-insert itself names (place_in name names) name up place_in-le-length
      (λ k d before. omega (arith, before-less k d before))
      (λ k d from within. omega (arith, at-not_less d (omega arith), up (place_in name names) k d from within))

  -- the least that isn't less stands at the place
  pub least : IsNonDecreasingBy itself names → (other d : ℕ) → Contains names other → name ≤ other
      → (place_in name names < length names) × (get_or names (place_in name names) d ≤ other)
  least up other d has from =
      let at = Contains-from other has from in
      let within : place_in name names < length names = omega (arith, at.1, at.2) in
      (within, omega (arith, up (place_in name names) at.0 d at.1 at.2, same at.0 at.2 at.3))
    where
      same : (k : ℕ) → k < length names → get_or names k other ≡ other → get_or names k d ≡ other
      same k within is = get_or_default names k d other within ∙ is

  -- a name that the list has stands at its place
  pub stands : IsNonDecreasingBy itself names → (d : ℕ) → Contains names name → (place_in name names < length names) × (get_or names (place_in name names) d ≡ name)
  stands up d has =
      let first = least up name d has (omega arith) in
      (first.0, omega (arith, first.1, at-not_less d first.0))

-- what stands at a place
slice_get-within : (names : List ℕ) (at d : ℕ) → at < length names → slice_get names at ≡ Some (get_or names at d)
slice_get-within [] at d within = absurd (omega (arith, within))
slice_get-within (n ∷ names) zero d within = refl
slice_get-within (n ∷ names) (suc at) d within = slice_get-within names at d (omega (arith, within))

slice_get-past : (names : List ℕ) (at : ℕ) → length names ≤ at → slice_get names at ≡ None
slice_get-past [] at past = refl
slice_get-past (n ∷ names) zero past = absurd (omega (arith, past))
slice_get-past (n ∷ names) (suc at) past = slice_get-past names at (omega (arith, past))

-- the least name that isn't less
module _ (name : ℕ) (names : List ℕ) (up : IsNonDecreasingBy itself names) where
  pub first-there : IfSome (slice_get names (place_in name names)) (λ found. Contains names found)
  first-there =
      elim (cases_lt (place_in name names) (length names)) [
        | inl within ↦ rw (slice_get-within names (place_in name names) 0 within) (Contains-get_or names (place_in name names) 0 within)
        | inr past ↦ rw (slice_get-past names (place_in name names) past) tt
      ]

  pub first-from : IfSome (slice_get names (place_in name names)) (λ found. name ≤ found)
  first-from =
      elim (cases_lt (place_in name names) (length names)) [
        | inl within ↦ rw (slice_get-within names (place_in name names) 0 within) (at-not_less name names 0 within)
        | inr past ↦ rw (slice_get-past names (place_in name names) past) tt
      ]

  pub first-least : (other : ℕ) → Contains names other → name ≤ other → IsSomeAnd (slice_get names (place_in name names)) (λ found. found ≤ other)
  first-least other has from =
      let first = least name names up other 0 has from in
      rw (slice_get-within names (place_in name names) 0 first.0) first.1

-- how often each name stands once one is put in
pub times-insert : (names : List ℕ) (at name other : ℕ) → times (insert names at name) other ≡ times names other + once_if (eqb other name)
times-insert names at name other = sum_by-insert (λ x. cond (eqb other x) 1 0) names at name

-- and once one is taken out
pub times-remove : (names : List ℕ) (at name d other : ℕ) → at < length names → get_or names at d ≡ name → times (remove names at) other + once_if (eqb other name) ≡ times names other
times-remove names at name d other within is = rw is at (sum_by-remove (λ x. cond (eqb other x) 1 0) names at d within)

-- a name that stands in the list at least once
pub Contains-times : (names : List ℕ) (name : ℕ) → 0 < times names name → Contains names name
Contains-times names name some =
    let within : position_or_len (eqb name) names < length names = ltb-true _ _ (position-count (eqb name) names ∙ lt-ltb 0 _ some) in
    let is : name ≡ get_or names (position_or_len (eqb name) names) name = eqb-true _ _ (passes_at_first (eqb name) names name within) in
    (position_or_len (eqb name) names, within, sym is)

pub times-Contains : (names : List ℕ) (name : ℕ) → Contains names name → 0 < times names name
times-Contains names name has = count_by-passes (eqb name) names has.0 name has.1 (eq-eqb name _ (sym has.2))

-- the names follow the headers
module _ (index other : ℕ) (within : index < OBJECT_INDICES) where
  -- a name with this index is that of an object by its serial
  named-here : other % INDEX_VALUES ≡ index → (header : Option Header) → is_name (name_at index header) other ≡ has_serial (other / INDEX_VALUES) header
  named-here at None = refl
  named-here at (Some h) =
      elim (cases_eq h.serial.0 (other / INDEX_VALUES)) [
        | inl same ↦ eq-eqb other _ (omega (arith, at, same)) ∙ sym (eq-eqb h.serial.0 (other / INDEX_VALUES) same)
        | inr apart ↦
            ne_eqb other (name_of h.serial.0 index) (λ is. apart (sym (ap (λ n. n / INDEX_VALUES) is ∙ div-mul-add h.serial.0 INDEX_VALUES index (omega arith))))
            ∙ sym (ne_eqb h.serial.0 (other / INDEX_VALUES) apart)
      ]

  -- a name with another index is none of this
  named-elsewhere : other % INDEX_VALUES ≢ index → (header : Option Header) → is_name (name_at index header) other ≡ false
  named-elsewhere apart None = refl
  named-elsewhere apart (Some h) =
      ne_eqb other (name_of h.serial.0 index) (λ is. apart (ap (λ n. n % INDEX_VALUES) is ∙ mod-mul-add h.serial.0 INDEX_VALUES index (omega arith)))

-- the object with this serial at this index lives where its header has it
live-name : (headers : List (Option Header)) (serial index : ℕ) → index < INDEX_VALUES → is_live headers (name_of serial index) ≡ has_serial serial (header_at headers index)
live-name headers serial index within =
    ap (λ n. has_serial n (header_at headers (name_of serial index % INDEX_VALUES))) (div-mul-add serial INDEX_VALUES index within)
    ∙ ap (λ n. has_serial serial (header_at headers n)) (mod-mul-add serial INDEX_VALUES index within)

has_serial-own : (h : Header) → has_serial h.serial.0 (Some h) ≡ true
has_serial-own h = eq-eqb h.serial.0 h.serial.0 refl

module _ (headers : List (Option Header)) (names : List ℕ) (indices : length headers ≡ OBJECT_INDICES) (are : AreNamed headers names) where
  -- the object at an index has its name in the list
  pub named : (index : ℕ) → index < OBJECT_INDICES → IfSome (name_at index (header_at headers index)) (Contains names)
  named index within = own (header_at headers index) refl
    where
      own : (header : Option Header) → header_at headers index ≡ header → IfSome (name_at index header) (Contains names)
      own None is = tt
      own (Some h) is =
          let live = live-name headers h.serial.0 index (omega arith) ∙ ap (has_serial h.serial.0) is ∙ has_serial-own h in
          Contains-times names (name_of h.serial.0 index) (omega (arith, are.each (name_of h.serial.0 index) ∙ ap once_if live))

  -- and the others leave room for it
  pub room-names : (index : ℕ) → index < OBJECT_INDICES → length names < OBJECT_INDICES + length (option_to_list (name_at index (header_at headers index)))
  room-names index within = own (header_at headers index) refl
    where
      own : (header : Option Header) → header_at headers index ≡ header → length names < OBJECT_INDICES + length (option_to_list (name_at index header))
      own None is = omega (arith, are.as_many, indices, nones-somes headers, count_by-passes is_none headers index None (omega (arith, indices)) (ap is_none is))
      own (Some h) is = omega (arith, are.as_many, indices, count_by-le-length is_some headers)

  -- an index gets another header, and the list its name
  pub AreNamed-set : (after : List ℕ) (index : ℕ) (header : Option Header) → index < OBJECT_INDICES
      → Renames (name_at index (header_at headers index)) (name_at index header) names after
      → AreNamed (set headers index header) after
  AreNamed-set after index header within renames = record {
    each = λ other.
        elim (cases_eq (other % INDEX_VALUES) index) [
          | inl at ↦
              let live : is_live (set headers index header) other ≡ has_serial (other / INDEX_VALUES) header =
              ap (λ n. has_serial (other / INDEX_VALUES) (header_at (set headers index header) n)) at
              ∙ ap (has_serial (other / INDEX_VALUES)) (get_or-set_same headers index header None (omega (arith, indices))) in
              let was : is_live headers other ≡ has_serial (other / INDEX_VALUES) (header_at headers index) =
              ap (λ n. has_serial (other / INDEX_VALUES) (header_at headers n)) at in
              let old = ap once_if (named-here index other within at (header_at headers index)) in
              let new = ap once_if (named-here index other within at header) in
              omega (arith, renames.each other, are.each other ∙ ap once_if was, old, new, ap once_if live)
          | inr apart ↦
              let live : is_live (set headers index header) other ≡ is_live headers other =
              ap (has_serial (other / INDEX_VALUES)) (get_or-set_other headers index (other % INDEX_VALUES) header None apart) in
              let old = ap once_if (named-elsewhere index other within apart (header_at headers index)) in
              let new = ap once_if (named-elsewhere index other within apart header) in
              omega (arith, renames.each other, are.each other, old, new, ap once_if live)
        ];
    as_many = omega (arith, renames.len, are.as_many, length-name index (header_at headers index), length-name index header, count_by-set is_some headers index header None (omega (arith, indices)));
  }
    where
      length-name : (i : ℕ) (h : Option Header) → length (option_to_list (name_at i h)) ≡ cond (is_some h) 1 0
      length-name i None = refl
      length-name i (Some h) = refl

-- no object has a name
pub AreNamed-none : (headers : List (Option Header)) (names : List ℕ) → headers ≡ replicate OBJECT_INDICES None → names ≡ [] → AreNamed headers names
AreNamed-none headers names none empty = record {
  each = λ name. rw empty (sym (ap (λ h. once_if (has_serial (name / INDEX_VALUES) h)) (replicate-at None OBJECT_INDICES headers none (name % INDEX_VALUES))));
  as_many = rw (empty, none) (sym (sum_by-replicate {X = Option Header} (λ x. cond (is_some x) 1 0) OBJECT_INDICES None ∙ omega arith));
}

-- the first name from that of the serial at index 0 tells whether an object has it
module _ (headers : List (Option Header)) (names : List ℕ) (are : AreNamed headers names) (serial : ℕ) where
  once-true : (b : Bool) → 0 < once_if b → b ≡ true
  once-true true above = refl
  once-true false above = absurd (omega (arith, above))

  pub index_of-found : (first : Option ℕ) → IfSome first (Contains names) → IfSome (index_in serial first) (λ index. has_serial serial (header_at headers index) ≡ true)
  index_of-found None there = tt
  index_of-found (Some name) there =
      elim (cases_eq (name / INDEX_VALUES) serial) [
        | inl same ↦
            let live = once-true (is_live headers name) (omega (arith, times-Contains names name there, are.each name)) in
            rw (eq-eqb (name / INDEX_VALUES) serial same) (ap (λ n. has_serial n (header_at headers (name % INDEX_VALUES))) (sym same) ∙ live)
        | inr apart ↦ rw (ne_eqb (name / INDEX_VALUES) serial apart) tt
      ]

  pub index_of-within : (first : Option ℕ) → IfSome (index_in serial first) (λ index. index < INDEX_VALUES)
  index_of-within None = tt
  index_of-within (Some name) =
      elim (cases_eq (name / INDEX_VALUES) serial) [
        | inl same ↦ rw (eq-eqb (name / INDEX_VALUES) serial same) (omega arith)
        | inr apart ↦ rw (ne_eqb (name / INDEX_VALUES) serial apart) tt
      ]

  has_serial-some : (header : Option Header) → has_serial serial header ≡ true → is_some header ≡ true
  has_serial-some None none = none
  has_serial-some (Some h) has = refl

  -- a name from that of the serial at index 0 up to one with the serial has the serial
  first-found : (first : Option ℕ) (index : ℕ) → index < INDEX_VALUES → IfSome first (λ found. name_of serial 0 ≤ found)
      → IsSomeAnd first (λ found. found ≤ name_of serial index) → index_in serial first ≢ None
  first-found None index within from upto none = upto
  first-found (Some name) index within from upto none =
      let same : name / INDEX_VALUES ≡ serial = omega (arith, within, from, upto) in
      none-some (name % INDEX_VALUES) (sym (rw (eq-eqb (name / INDEX_VALUES) serial same) at none))

  pub index_of-none : length headers ≡ OBJECT_INDICES → (first : Option ℕ) → IfSome first (λ found. name_of serial 0 ≤ found)
      → ((other : ℕ) → Contains names other → name_of serial 0 ≤ other → IsSomeAnd first (λ found. found ≤ other))
      → index_in serial first ≡ None → (index : ℕ) → has_serial serial (header_at headers index) ≡ false
  index_of-none indices first from least none index =
      false_from_ne_true (has_serial serial (header_at headers index)) (λ has.
      let within : index < length headers = is_some-within headers index (has_serial-some (header_at headers index) has) in
      let small : index < INDEX_VALUES = omega (arith, within, indices) in
      let live = live-name headers serial index small ∙ has in
      let there = Contains-times names (name_of serial index) (omega (arith, are.each (name_of serial index) ∙ ap once_if live)) in
      first-found first index small from (least (name_of serial index) there (omega arith)) none)
