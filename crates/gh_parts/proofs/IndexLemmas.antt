-- Where the live object with a serial is.
use Rattle.std.proofs.Common.{◌≡◌, ◌<◌, ◌≤◌, ◌∙◌, ℕ, Bool, true, false, List, Option, Some, None, refl, sym, ap, subst, arith}
use Rattle.std.proofs.Common.{inl, inr, length, nat_lt, if◌then◌else◌}
use Rattle.std.specs.Prelude.{IfSome, IsSome}
use Rattle.std.specs.Option.{option_map, option_map_or}
use Rattle.std.proofs.lemmas.Bool.{cases_lt, eqb-true, lt-ltb, le-ltb, ltb-false, ltb-true, both_ways}
use Rattle.std.proofs.lemmas.List.{get_or_past}
use Rattle.std.proofs.lemmas.List.Sums.{passes_at_first, prefix_len-le-length}
use Rattle.gh_base.specs.declared.ids.ObjIndex.{ObjIndex}
use Rattle.gh_base.specs.declared.limits.TheConstants.{OBJECT_INDICES}
use Rattle.gh_objects.specs.Headers.{has_serial, header_at}
use Rattle.gh_objects.specs.declared.header.Header.{Header}
use Rattle.gh_parts.specs.Index.{AreIndexed, found_index, index_of, indexed}

-- a header has one serial
pub serials_same : (x y : ℕ) (header : Option Header) → has_serial x header ≡ true
    → has_serial y header ≡ true → x ≡ y
serials_same x y None is also = absurd (let never : ⊥ = cc in never)
serials_same x y (Some h) is also = sym (eqb-true h.serial.0 x is) ∙ eqb-true h.serial.0 y also

module _ (headers : List (Option Header)) where
  -- an index that is found is that of a header with the serial
  pub header_found : (serial : ℕ) → index_of headers serial < length headers
      → has_serial serial (header_at headers (index_of headers serial)) ≡ true
  header_found serial below = passes_at_first (has_serial serial) headers None below

  -- two serials that are found at one index are one
  pub one_serial : (x y : ℕ) → index_of headers x < length headers
      → index_of headers x ≡ index_of headers y → x ≡ y
  one_serial x y below same =
      serials_same x y (header_at headers (index_of headers x)) (header_found x below)
      (subst (λ (i : ℕ). has_serial y (header_at headers i) ≡ true) (sym same)
      (header_found y (subst (λ (i : ℕ). i < length headers) same below)))

  -- no index is past the last
  pub index_within : (serial : ℕ) → index_of headers serial ≤ length headers
  index_within serial = prefix_len-le-length _ headers

alone_by : (headers : List (Option Header)) → AreIndexed headers → (serial index : ℕ)
    → (header : Option Header) → header_at headers index ≡ header → has_serial serial header ≡ true
    → index_of headers serial ≡ index
alone_by headers all serial index None is has = absurd (let never : ⊥ = cc in never)
alone_by headers all serial index (Some h) is has =
    subst (λ (n : ℕ). index_of headers n ≡ index) (eqb-true h.serial.0 serial has) (all.alone index h is)

-- the header with the serial is at the serial's index
pub alone : (headers : List (Option Header)) → AreIndexed headers → (serial index : ℕ)
    → has_serial serial (header_at headers index) ≡ true → index_of headers serial ≡ index
alone headers all serial index has = alone_by headers all serial index (header_at headers index) refl has

within_by : (headers : List (Option Header)) (serial index : ℕ)
    → has_serial serial (header_at headers index) ≡ true → length headers ≤ index → ⊥
within_by headers serial index has past =
    let none : header_at headers index ≡ None = get_or_past headers index None past in
    both_ways (has_serial serial (header_at headers index)) (ap (has_serial serial) none) has

-- and it is one of the indices
pub found_within : (headers : List (Option Header)) → AreIndexed headers → (serial index : ℕ)
    → has_serial serial (header_at headers index) ≡ true → index < OBJECT_INDICES
found_within headers all serial index has =
    elim (cases_lt index OBJECT_INDICES) [
      | inl below ↦ below
      | inr past ↦ absurd (within_by headers serial index has (omega (arith, all.indices)))
    ]

-- the index that a search finds
pub found_is : (headers : List (Option Header)) → AreIndexed headers → (serial : ℕ) (index : ObjIndex)
    → has_serial serial (header_at headers index.0) ≡ true
    → Some index ≡ found_index headers serial
found_is headers all serial index has =
    let at : index_of headers serial ≡ index.0 = alone headers all serial index.0 has in
    let below : index_of headers serial < length headers =
    omega (arith, all.indices, found_within headers all serial index.0 has) in
    rw (lt-ltb _ _ below, at) refl

-- where a search finds none there is none
pub unfound_is : (headers : List (Option Header)) (serial : ℕ)
    → ((index : ℕ) → has_serial serial (header_at headers index) ≡ false)
    → None ≡ found_index headers serial
unfound_is headers serial none =
    elim (cases_lt (index_of headers serial) (length headers)) [
      | inl below ↦ absurd (both_ways _ (none (index_of headers serial)) (header_found headers serial below))
      | inr past ↦ rw (le-ltb _ _ past) refl
    ]

found_at_by : (headers : List (Option Header)) (serial : ℕ) (index : ObjIndex) (below : Bool)
    → option_map indexed (if below then Some (index_of headers serial) else None) ≡ Some index
    → index_of headers serial ≡ index.0
found_at_by headers serial index true is =
    ap (λ (o : Option ObjIndex). option_map_or (λ (i : ObjIndex). i.0) o 0) is
found_at_by headers serial index false is = absurd (let never : ⊥ = cc in never)

-- the index that is found is the serial's
pub found_at : (headers : List (Option Header)) (serial : ℕ) (index : ObjIndex)
    → found_index headers serial ≡ Some index → index_of headers serial ≡ index.0
found_at headers serial index is =
    found_at_by headers serial index (nat_lt (index_of headers serial) (length headers)) is

past_by : (headers : List (Option Header)) (serial : ℕ) (below : Bool)
    → nat_lt (index_of headers serial) (length headers) ≡ below
    → option_map indexed (if below then Some (index_of headers serial) else None) ≡ None
    → length headers ≤ index_of headers serial
past_by headers serial true is none = absurd (let never : ⊥ = cc in never)
past_by headers serial false is none = ltb-false _ _ is

-- a serial that isn't found is past the last index
pub unfound_past : (headers : List (Option Header)) (serial : ℕ)
    → found_index headers serial ≡ None → length headers ≤ index_of headers serial
unfound_past headers serial none =
    past_by headers serial (nat_lt (index_of headers serial) (length headers)) refl none

-- a search's answer is the index
pub index_is : (headers : List (Option Header)) → AreIndexed headers → (serial : ℕ)
    → (result : Option ObjIndex)
    → IfSome result (λ (index : ObjIndex). has_serial serial (header_at headers index.0) ≡ true)
    → (result ≡ None → (index : ℕ) → has_serial serial (header_at headers index) ≡ false)
    → result ≡ found_index headers serial
index_is headers all serial None some none = unfound_is headers serial (none refl)
index_is headers all serial (Some index) some none = found_is headers all serial index some

-- and within the indices
pub index_is_within : (headers : List (Option Header)) → AreIndexed headers → (serial : ℕ)
    → (result : Option ObjIndex)
    → IfSome result (λ (index : ObjIndex). has_serial serial (header_at headers index.0) ≡ true)
    → IfSome result (λ (index : ObjIndex). index.0 < OBJECT_INDICES)
index_is_within headers all serial None some = tt
index_is_within headers all serial (Some index) some = found_within headers all serial index.0 some

some_has : (serial : ℕ) (header : Option Header) → has_serial serial header ≡ true → IsSome header
some_has serial None has = absurd (let never : ⊥ = cc in never)
some_has serial (Some h) has = refl

below_by : (headers : List (Option Header)) (serial : ℕ) (index : ObjIndex) (below : Bool)
    → nat_lt (index_of headers serial) (length headers) ≡ below
    → option_map indexed (if below then Some (index_of headers serial) else None) ≡ Some index
    → index_of headers serial < length headers
below_by headers serial index true is found = ltb-true _ _ is
below_by headers serial index false is found = absurd (let never : ⊥ = cc in never)

-- a header stands at the index that is found
pub found_header : (headers : List (Option Header)) (serial : ℕ) (index : ObjIndex)
    → found_index headers serial ≡ Some index → IsSome (header_at headers index.0)
found_header headers serial index is =
    subst (λ (i : ℕ). IsSome (header_at headers i)) (found_at headers serial index is)
    (some_has serial _ (header_found headers serial
    (below_by headers serial index (nat_lt (index_of headers serial) (length headers)) refl is)))
