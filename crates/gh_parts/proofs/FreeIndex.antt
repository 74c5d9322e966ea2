-- The index that a new object gets in the block of a partition that lives, and the one that a boot
-- partition gets.
use Rattle.std.proofs.Common.{◌≡◌, ◌<◌, ◌∙◌, ◌*◌, ◌+◌, ◌/◌, ℕ, Bool, true, List, Option, Some, None, refl, sym, ap, arith, length, get_or, drop}
use Rattle.std.specs.Prelude.{count_by, is_none, is_some, if◌then◌else◌}
use Rattle.std.specs.List.{position_or_len}
use Rattle.std.proofs.lemmas.List.{get_or-drop, get_or-take, length-drop, length-take-le}
use Rattle.std.proofs.lemmas.List.Sums.{passes_at_first}
use Rattle.std.proofs.lemmas.Nat.{div-mul-add}
use Rattle.gh_base.specs.declared.ids.ObjIndex.{ObjIndex}
use Rattle.gh_base.specs.declared.limits.TheConstants.{OBJECT_INDICES, PARTITION_PLACES, PARTITIONS}
use Rattle.gh_objects.proofs.ListLemmas.{position_or_len-lt-length}
use Rattle.gh_objects.specs.Headers.{HeaderTable, free_index, header_at, headers_in, is_partition, new_index, new_place, place_of}
use Rattle.gh_objects.specs.Partitions.{HavePlaces}
use Rattle.gh_objects.specs.declared.header.Header.{Header}
use Rattle.gh_parts.proofs.AddedBlocks.{place_had}

pub none_is : {X : Type 0} (found : Option X) → is_none found ≡ true → found ≡ None
none_is None is = refl
none_is (Some x) is = absurd (let never : ⊥ = cc in never)

module _ (table : HeaderTable) (have : HavePlaces table.headers table.partitions) (home : ℕ)
    (lives : is_partition (header_at table.headers home) ≡ true) where
  abbrev headers : List (Option Header)
  headers = table.headers

  abbrev place : ℕ
  place = place_of table.partitions home

  abbrev block : List (Option Header)
  block = headers_in headers place

  abbrev spot : ℕ
  spot = position_or_len is_none block

  place_below : place < PARTITIONS
  place_below = omega (arith, (place_had headers table.partitions have home lives).0, have.places)

  block_size : length block ≡ PARTITION_PLACES
  block_size =
      length-take-le PARTITION_PLACES (drop (PARTITION_PLACES * place) headers)
      (omega (arith, length-drop (PARTITION_PLACES * place) headers, have.indices, place_below))

  module _ (few : count_by is_some block < PARTITION_PLACES) where
    spot_below : spot < PARTITION_PLACES
    spot_below =
        let within : spot < length block = position_or_len-lt-length is_some block (omega (arith, block_size, few)) in
        omega (arith, block_size)

    -- it is the index of a new object in the partition
    pub index_is : new_index table home ≡ free_index headers place
    index_is = ap (λ (b : Bool). if b then free_index headers place else home) lives

    pub place_is : new_place table home ≡ position_or_len is_none table.partitions
    place_is =
        ap (λ (b : Bool). if b then position_or_len is_none table.partitions else home / PARTITION_PLACES) lives

    -- which is one of the indices, is free, and lies in the block
    pub index_below : new_index table home < OBJECT_INDICES
    index_below = omega (arith, index_is, spot_below, place_below)

    spot_free : get_or block spot None ≡ None
    spot_free =
        none_is (get_or block spot None)
        (passes_at_first is_none block None (omega (arith, block_size, spot_below)))

    pub index_free : header_at headers (new_index table home) ≡ None
    index_free =
        ap (header_at headers) index_is
        ∙ sym (get_or-drop (PARTITION_PLACES * place) headers spot None)
        ∙ sym (get_or-take PARTITION_PLACES (drop (PARTITION_PLACES * place) headers) spot None spot_below)
        ∙ spot_free

    pub index_in : new_index table home / PARTITION_PLACES ≡ place
    index_in =
        ap (λ (n : ℕ). n / PARTITION_PLACES)
        (index_is ∙ (let turned : PARTITION_PLACES * place + spot ≡ place * PARTITION_PLACES + spot = omega arith in turned))
        ∙ div-mul-add place PARTITION_PLACES spot spot_below

-- where fewer partitions live than there are places, the least free place is one, and none has it
pub free_place : (headers : List (Option Header)) (partitions : List (Option ObjIndex))
    → HavePlaces headers partitions → count_by is_partition headers < PARTITIONS
    → (position_or_len is_none partitions < PARTITIONS)
    × (get_or partitions (position_or_len is_none partitions) None ≡ None)
free_place headers partitions have few =
    let within : position_or_len is_none partitions < length partitions =
    position_or_len-lt-length is_some partitions (omega (arith, have.places, have.as_many, few)) in
    (omega (arith, have.places), none_is (get_or partitions (position_or_len is_none partitions) None) (passes_at_first is_none partitions None within))
