-- The index that a boot partition gets: the first of a block in which nothing lies.
use Rattle.std.proofs.Common.{◌≡◌, ◌<◌, ◌∙◌, ◌*◌, ◌+◌, ◌/◌, ℕ, Bool, true, false, List, Option, Some, None, refl, sym, ap, subst, arith, length, get_or, set}
use Rattle.std.proofs.Common.{nat_lt, if◌then◌else◌}
use Rattle.std.specs.Prelude.{is_none, position}
use Rattle.std.specs.List.{position_or_len}
use Rattle.std.specs.Option.{option_map, option_map_or}
use Rattle.std.proofs.lemmas.Bool.{both_ways, eq-eqb, lt-ltb, ltb-true}
use Rattle.std.proofs.lemmas.List.{get_or-set_other, get_or-set_same, length-set}
use Rattle.std.proofs.lemmas.List.Sums.{passes_at_first, position_or_len_is}
use Rattle.std.proofs.lemmas.Nat.{div-mul-add}
use Rattle.gh_base.specs.declared.ids.ObjIndex.{ObjIndex}
use Rattle.gh_base.specs.declared.kind.Kind.{Kind}
use Rattle.gh_base.specs.declared.kind.Kind.TheVariants as kind
use Rattle.gh_base.specs.declared.limits.TheConstants.{OBJECT_INDICES, PARTITION_PLACES, PARTITIONS}
use Rattle.gh_objects.specs.Headers.{HasIndex, HasIndexIf, HeaderTable, boot_index, first_index, free_index, header_at, header_inserted, is_had_by, is_partition, new_index, new_place, place_of, with_header, with_partition}
use Rattle.gh_objects.specs.declared.header.Header.{Header}
use Rattle.gh_parts.specs.Blocks.{BlocksStand}
use Rattle.gh_parts.proofs.AddedBlocks.{AreHoused, Places, blocks_placed, place_had, unhad}
use Rattle.gh_parts.proofs.FreeIndex.{none_is}

placed_by : (partitions : List (Option ObjIndex)) (index : ObjIndex) (below : Bool)
    → nat_lt (position_or_len is_none partitions) (length partitions) ≡ below
    → Some index ≡ option_map first_index (if below then Some (position_or_len is_none partitions) else None)
    → (index.0 ≡ PARTITION_PLACES * position_or_len is_none partitions)
    × (position_or_len is_none partitions < length partitions)
placed_by partitions index true is found =
    (ap (λ (o : Option ObjIndex). option_map_or (λ (i : ObjIndex). i.0) o 0) found, ltb-true _ _ is)
placed_by partitions index false is found = absurd (let never : ⊥ = cc in never)

nowhere_by : (partitions : List (Option ObjIndex)) (below : Bool)
    → nat_lt (position_or_len is_none partitions) (length partitions) ≡ below
    → position_or_len is_none partitions < length partitions
    → None ≡ option_map first_index (if below then Some (position_or_len is_none partitions) else None) → ⊥
nowhere_by partitions true is fits none = let never : ⊥ = cc in never
nowhere_by partitions false is fits none =
    both_ways (nat_lt (position_or_len is_none partitions) (length partitions)) is (lt-ltb _ _ fits)

-- where a place is left there is an index
pub boot_somewhere : (partitions : List (Option ObjIndex)) → position_or_len is_none partitions < PARTITIONS
    → length partitions ≡ PARTITIONS → None ≡ option_map first_index (position is_none partitions) → ⊥
boot_somewhere partitions fits size none =
    nowhere_by partitions (nat_lt (position_or_len is_none partitions) (length partitions)) refl (omega (arith, size)) none

module _ (table : HeaderTable) (blocks : BlocksStand table) (housed : AreHoused table.headers)
    (index : ObjIndex) (found : Some index ≡ boot_index table) where
  abbrev headers : List (Option Header)
  headers = table.headers

  abbrev at : ℕ
  at = index.0

  abbrev place : ℕ
  place = position_or_len is_none table.partitions

  placed : (at ≡ PARTITION_PLACES * place) × (place < length table.partitions)
  placed =
      placed_by table.partitions index (nat_lt place (length table.partitions)) refl found

  place_below : place < PARTITIONS
  place_below = omega (arith, placed.1, blocks.places.places)

  pub boot_below : at < OBJECT_INDICES
  boot_below = omega (arith, placed.0, place_below)

  vacant : get_or table.partitions place None ≡ None
  vacant =
      none_is (get_or table.partitions place None) (passes_at_first is_none table.partitions None placed.1)

  spot : at / PARTITION_PLACES ≡ place
  spot =
      ap (λ (n : ℕ). n / PARTITION_PLACES)
      (placed.0 ∙ (let turned : PARTITION_PLACES * place ≡ place * PARTITION_PLACES + 0 = omega arith in turned))
      ∙ div-mul-add place PARTITION_PLACES 0 (omega arith)

  -- a header there would be of a partition that has the place
  taken : (header : Header) → header_at headers at ≡ Some header → ⊥
  taken header is =
      let same : place_of table.partitions header.partition.0 ≡ place = sym (blocks.within at header is) ∙ spot in
      both_ways (is_had_by header.partition.0 (get_or table.partitions place None))
      (ap (is_had_by header.partition.0) vacant)
      (subst (λ (p : ℕ). is_had_by header.partition.0 (get_or table.partitions p None) ≡ true) same
      (place_had headers table.partitions blocks.places header.partition.0 (housed at header is)).1)

  free_by : (here : Option Header) → header_at headers at ≡ here → here ≡ None
  free_by None is = refl
  free_by (Some header) is = absurd (taken header is)

  pub boot_free : header_at headers at ≡ None
  boot_free = free_by (header_at headers at) refl

  dead : is_partition (header_at headers at) ≡ false
  dead = ap is_partition boot_free

  -- there is the index
  pub boot_has : HasIndex table kind.Partition at
  boot_has =
      subst (λ (b : Bool). HasIndexIf b table kind.Partition at) (sym dead)
      (record {
        partition = refl;
        first = placed.0 ∙ ap (λ (p : ℕ). PARTITION_PLACES * p) (sym spot);
        place = omega (arith, spot, place_below);
        free = ap (λ (p : ℕ). get_or table.partitions p None) spot ∙ vacant;
      })

  -- and it is that of a new object
  pub boot_new : new_index table at ≡ at
  boot_new = ap (λ (b : Bool). if b then free_index headers (place_of table.partitions at) else at) dead

  boot_place : new_place table at ≡ place
  boot_place =
      ap (λ (b : Bool). if b then position_or_len is_none table.partitions else at / PARTITION_PLACES) dead
      ∙ spot

  module _ (header : Header) (partition : header.kind ≡ kind.Partition) (own : header.partition.0 ≡ at) where
    pub boot_inserted : header_inserted table header ≡ with_header table header place at
    boot_inserted =
        ap (λ (p : ℕ). with_header table header (new_place table p) (new_index table p)) own
        ∙ ap (λ (i : ℕ). with_header table header (new_place table at) i) boot_new
        ∙ ap (λ (p : ℕ). with_header table header p at) boot_place

    places : Places table header place at
    places = record {
      blocks = blocks;
      housed = housed;
      below = boot_below;
      free = boot_free;
      inside = λ is. place_below;
      vacant = λ is. vacant;
    }

    abbrev more : List (Option ObjIndex)
    more = set table.partitions place (Some (record { 0 = at }))

    had : place_of more at ≡ place
    had =
        position_or_len_is (is_had_by at) more place None (omega (arith, length-set table.partitions place (Some (record { 0 = at })), placed.1))
        (λ k before.
        ap (is_had_by at) (get_or-set_other table.partitions place k (Some (record { 0 = at })) None (λ same. omega (arith, before)))
        ∙ unhad headers table.partitions blocks.places at k dead (omega (arith, before, placed.1)))
        (λ within.
        ap (is_had_by at) (get_or-set_same table.partitions place (Some (record { 0 = at })) None placed.1)
        ∙ eq-eqb at at refl)

    -- the partition has its place now
    had_now : place_of (with_partition table.partitions header.kind place at) at ≡ place
    had_now =
        subst (λ (k : Kind). place_of (with_partition table.partitions k place at) at ≡ place) (sym partition) had

    pub boot_blocks : BlocksStand (with_header table header place at)
    boot_blocks =
        blocks_placed table header place at places
        (spot ∙ sym (ap (place_of (with_partition table.partitions header.kind place at)) own ∙ had_now))
        (λ itself. placed.0 ∙ ap (λ (p : ℕ). PARTITION_PLACES * p) (sym had_now))
