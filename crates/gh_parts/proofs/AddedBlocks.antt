-- Objects stay in their blocks once a header more stands in the block of its partition's place.
use Rattle.std.proofs.Common.{◌≡◌, ◌≢◌, ◌<◌, ◌∙◌, ◌/◌, ◌*◌, ℕ, Bool, true, false, List, Option, Some, None, refl, sym, ap, subst, arith, inl, inr}
use Rattle.std.proofs.Common.{length, set, get_or, ltb}
use Rattle.std.specs.Prelude.{count_by, if◌then◌else◌}
use Rattle.std.proofs.lemmas.Bool.{both_ways, cases_eq, ltb-true, ne_eqb}
use Rattle.std.proofs.lemmas.List.{get_or-set_other, get_or-set_same}
use Rattle.std.proofs.lemmas.List.Folds.{position_or_len-set}
use Rattle.std.proofs.lemmas.List.Sums.{passes_at_first}
use Rattle.gh_base.specs.declared.ids.ObjIndex.{ObjIndex}
use Rattle.gh_base.specs.declared.limits.TheConstants.{OBJECT_INDICES, PARTITION_PLACES, PARTITIONS}
use Rattle.gh_objects.proofs.ListLemmas.{count_by-passes, position-count}
use Rattle.gh_objects.proofs.PartitionsLemmas.{HavePlaces-new, HavePlaces-same}
use Rattle.gh_objects.specs.Headers.{HeaderTable, header_at, is_had_by, is_partition, is_partition_kind, place_of, with_header, with_partition}
use Rattle.gh_objects.specs.Partitions.{HavePlaces}
use Rattle.gh_objects.specs.declared.header.Header.{Header}
use Rattle.gh_parts.specs.Blocks.{BlocksStand}
use Rattle.gh_parts.proofs.Options.{some_same}

module _ (headers : List (Option Header)) (partitions : List (Option ObjIndex))
    (have : HavePlaces headers partitions) where
  -- a live partition has its place
  pub place_had : (index : ℕ) → is_partition (header_at headers index) ≡ true
      → (place_of partitions index < length partitions)
      × (is_had_by index (get_or partitions (place_of partitions index) None) ≡ true)
  place_had index lives =
      let one : count_by (is_had_by index) partitions ≡ 1 =
      have.one_each index ∙ ap (λ (b : Bool). if b then 1 else 0) lives in
      let below : place_of partitions index < length partitions =
      ltb-true _ _ (position-count (is_had_by index) partitions ∙ ap (ltb 0) one) in
      (below, passes_at_first (is_had_by index) partitions None below)

  -- and what is no live partition has none
  pub unhad : (index place : ℕ) → is_partition (header_at headers index) ≡ false
      → place < length partitions → is_had_by index (get_or partitions place None) ≡ false
  unhad index place dead below = by (is_had_by index (get_or partitions place None)) refl
    where
      by : (had : Bool) → is_had_by index (get_or partitions place None) ≡ had → had ≡ false
      by false is = refl
      by true is =
          let none : count_by (is_had_by index) partitions ≡ 0 =
          have.one_each index ∙ ap (λ (b : Bool). if b then 1 else 0) dead in
          absurd (omega (arith, none, count_by-passes (is_had_by index) partitions place None below is))

-- a place is had by one index
pub had_same : (x y : ℕ) (had : Option ObjIndex) → is_had_by x had ≡ true → is_had_by y had ≡ true → x ≡ y
had_same x y None is also = absurd (let never : ⊥ = cc in never)
had_same x y (Some index) is also = grind (arith)

-- two live partitions don't have one place
pub one_place : (headers : List (Option Header)) (partitions : List (Option ObjIndex))
    → HavePlaces headers partitions → (x y : ℕ) → is_partition (header_at headers x) ≡ true
    → is_partition (header_at headers y) ≡ true → place_of partitions x ≡ place_of partitions y
    → x ≡ y
one_place headers partitions have x y lives also same =
    had_same x y (get_or partitions (place_of partitions x) None)
    (place_had headers partitions have x lives).1
    (subst (λ (p : ℕ). is_had_by y (get_or partitions p None) ≡ true) (sym same)
    (place_had headers partitions have y also).1)

-- each object lives in a partition that lives
abbrev pub AreHoused : List (Option Header) → Type 0
AreHoused headers =
    (index : ℕ) (header : Header) → header_at headers index ≡ Some header
    → is_partition (header_at headers header.partition.0) ≡ true

-- a header comes to a free index, and if it is a partition's to a place that none has
pub record Places (table : HeaderTable) (header : Header) (place at : ℕ) : Type 0 where
  pub blocks : BlocksStand table
  pub housed : AreHoused table.headers
  pub below : at < OBJECT_INDICES
  pub free : header_at table.headers at ≡ None
  pub inside : is_partition_kind header.kind ≡ true → place < PARTITIONS
  pub vacant : is_partition_kind header.kind ≡ true → get_or table.partitions place None ≡ None

module _ (table : HeaderTable) (header : Header) (place at : ℕ) (places : Places table header place at) where
  abbrev headers : List (Option Header)
  headers = table.headers

  abbrev now : List (Option Header)
  now = set headers at (Some header)

  abbrev pub partitions : List (Option ObjIndex)
  partitions = with_partition table.partitions header.kind place at

  within : at < length headers
  within = omega (arith, places.blocks.places.indices, places.below)

  dead : is_partition (header_at headers at) ≡ false
  dead = ap is_partition places.free

  have_by : (kind : Bool) → is_partition_kind header.kind ≡ kind
      → HavePlaces now (if kind then set table.partitions place (Some (record { 0 = at })) else table.partitions)
  have_by true is =
      HavePlaces-new headers table.partitions places.blocks.places at (Some header) within place
      (omega (arith, places.blocks.places.places, places.inside is)) (places.vacant is) dead is
  have_by false is =
      HavePlaces-same headers table.partitions places.blocks.places at (Some header) within (is ∙ sym dead)

  -- a live partition keeps its place
  place_by : (kind : Bool) → is_partition_kind header.kind ≡ kind → (index : ℕ)
      → is_partition (header_at headers index) ≡ true
      → place_of (if kind then set table.partitions place (Some (record { 0 = at })) else table.partitions) index
      ≡ place_of table.partitions index
  place_by true is index lives =
      position_or_len-set (is_had_by index) table.partitions place (Some (record { 0 = at })) None
      (ne_eqb at index
      (λ same. both_ways (is_partition (header_at headers at)) dead
      (subst (λ (i : ℕ). is_partition (header_at headers i) ≡ true) (sym same) lives))
      ∙ sym (ap (is_had_by index) (places.vacant is)))
  place_by false is index lives = refl

  pub place_kept : (index : ℕ) → is_partition (header_at headers index) ≡ true
      → place_of partitions index ≡ place_of table.partitions index
  place_kept index lives = place_by (is_partition_kind header.kind) refl index lives

  here_is : (found : Header) (index : ℕ) → header_at now index ≡ Some found → index ≡ at → header ≡ found
  here_is found index is same =
      some_same header found
      (sym (get_or-set_same headers at (Some header) None within)
      ∙ subst (λ (i : ℕ). header_at now i ≡ Some found) same is)

  there_is : (found : Header) (index : ℕ) → header_at now index ≡ Some found → index ≢ at
      → header_at headers index ≡ Some found
  there_is found index is apart = sym (get_or-set_other headers at index (Some header) None apart) ∙ is

  module _ (home : at / PARTITION_PLACES ≡ place_of partitions header.partition.0)
      (own : header.partition.0 ≡ at → at ≡ PARTITION_PLACES * place_of partitions at) where
    pub blocks_placed : BlocksStand (with_header table header place at)
    blocks_placed = record {
      places = have_by (is_partition_kind header.kind) refl;
      within = λ index found is.
          elim (cases_eq index at) [
            | inl same ↦
                ap (λ (i : ℕ). i / PARTITION_PLACES) same ∙ home
                ∙ ap (λ (h : Header). place_of partitions h.partition.0) (here_is found index is same)
            | inr apart ↦
                places.blocks.within index found (there_is found index is apart)
                ∙ sym (place_kept found.partition.0 (places.housed index found (there_is found index is apart)))
          ];
      first = λ index found is itself.
          elim (cases_eq index at) [
            | inl same ↦
                same
                ∙ own (ap (λ (h : Header). h.partition.0) (here_is found index is same) ∙ itself ∙ same)
                ∙ ap (λ (i : ℕ). PARTITION_PLACES * place_of partitions i) (sym same)
            | inr apart ↦
                places.blocks.first index found (there_is found index is apart) itself
                ∙ ap (λ (p : ℕ). PARTITION_PLACES * p)
                (sym (place_kept index
                (subst (λ (i : ℕ). is_partition (header_at headers i) ≡ true) itself
                (places.housed index found (there_is found index is apart)))))
          ];
    }
