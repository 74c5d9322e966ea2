-- The headers of the live objects as callers see them: by index, with the partition places that the
-- live partitions have.
use Rattle.std.specs.Prelude.{◌≡◌, ◌==◌, ℕ, ◌+◌, ◌*◌, ◌/◌}
use Rattle.std.specs.Prelude.{◌<◌, Bool, true, false, List, Option, Some, None}
use Rattle.std.specs.Prelude.{is_some, is_none, take, drop, count_by, nat_lt, position}
use Rattle.std.specs.Prelude.{slice_index_or, slice_set, replicate, if◌then◌else◌}
use Rattle.std.specs.List.{position_or_len}
use Rattle.std.specs.Option.{option_map, option_map_or}
use Rattle.gh_base.specs.Kind.{kind_number}
use Rattle.gh_base.specs.declared.ids.ObjIndex.{ObjIndex}
use Rattle.gh_base.specs.declared.kind.Kind.{Kind}
use Rattle.gh_base.specs.declared.kind.Kind.TheVariants.{Partition, Cspace, Space}
use Rattle.gh_base.specs.declared.kind.Kind.TheVariants.{Extent, Bell, Queue}
use Rattle.gh_base.specs.declared.kind.Stage.{Stage}
use Rattle.gh_base.specs.declared.limits.TheConstants.{OBJECT_INDICES, PARTITIONS, PARTITION_PLACES}
use Rattle.gh_objects.specs.declared.header.Header.{Header}

-- the header of the live object at each index, and for each partition place the index of the live
-- partition that has it
pub record HeaderTable : Type 0 where
  pub headers : List (Option Header)
  pub partitions : List (Option ObjIndex)

-- no object lives
abbrev pub no_headers : HeaderTable
no_headers = record {
  headers = replicate OBJECT_INDICES None;
  partitions = replicate PARTITIONS None;
}

-- the header at an index
abbrev pub header_at : List (Option Header) → ℕ → Option Header
header_at headers index = slice_index_or headers index None

-- the kind is that of partitions
abbrev pub is_partition_kind : Kind → Bool
is_partition_kind Partition = true
is_partition_kind Cspace = false
is_partition_kind Space = false
is_partition_kind Extent = false
is_partition_kind Bell = false
is_partition_kind Queue = false

-- a live partition
abbrev pub is_partition : Option Header → Bool
is_partition header = option_map_or (λ h. is_partition_kind h.kind) header false

-- the partition place is had by the partition of this index
abbrev pub is_had_by : ℕ → Option ObjIndex → Bool
is_had_by index had = option_map_or (λ i. i.0 == index) had false

-- the partition place that a live partition has
abbrev pub place_of : List (Option ObjIndex) → ℕ → ℕ
place_of partitions index = position_or_len (is_had_by index) partitions

-- the headers at the indices of a partition place
abbrev pub headers_in : List (Option Header) → ℕ → List (Option Header)
headers_in headers place = take PARTITION_PLACES (drop (PARTITION_PLACES * place) headers)

-- the least free index of a partition place
abbrev pub free_index : List (Option Header) → ℕ → ℕ
free_index headers place =
    PARTITION_PLACES * place + position_or_len is_none (headers_in headers place)

-- a boot partition may have this index: the first of a partition place that no live partition has
pub record IsBootPlace (partitions : List (Option ObjIndex)) (kind : Kind)
    (index : ℕ) : Type 0 where
  pub partition : kind ≡ Partition
  pub first : index ≡ PARTITION_PLACES * (index / PARTITION_PLACES)
  pub place : index / PARTITION_PLACES < PARTITIONS
  pub free : slice_index_or partitions (index / PARTITION_PLACES) None ≡ None

-- there is an index for a new object of the kind in this partition: one that is free, where the
-- partition lives, and else that of a boot partition
abbrev pub HasIndexIf : Bool → HeaderTable → Kind → ℕ → Type 0
HasIndexIf true s kind partition =
    count_by is_some (headers_in s.headers (place_of s.partitions partition)) < PARTITION_PLACES
HasIndexIf false s kind partition = IsBootPlace s.partitions kind partition

-- there is an index for a new object of the kind, whether the partition lives or not
abbrev pub HasIndex : HeaderTable → Kind → ℕ → Type 0
HasIndex s kind partition =
    HasIndexIf (is_partition (header_at s.headers partition)) s kind partition

-- the index of a new object in this partition
abbrev pub new_index : HeaderTable → ℕ → ℕ
new_index s partition =
    if is_partition (header_at s.headers partition)
    then free_index s.headers (place_of s.partitions partition)
    else partition

-- the partition place of a new partition: the least that no live partition has, and a boot
-- partition's own
abbrev pub new_place : HeaderTable → ℕ → ℕ
new_place s partition =
    if is_partition (header_at s.headers partition) then position_or_len is_none s.partitions
    else partition / PARTITION_PLACES

-- the partition places once an object of this kind has this index: a partition has that place
abbrev pub with_partition :
    List (Option ObjIndex) → Kind → ℕ → ℕ → List (Option ObjIndex)
with_partition partitions kind place index =
    if is_partition_kind kind then slice_set partitions place (Some (record { 0 = index }))
    else partitions

-- the headers with a new one at this index, where a partition has this place
abbrev pub with_header : HeaderTable → Header → ℕ → ℕ → HeaderTable
with_header s header place index = record {
  headers = slice_set s.headers index (Some header);
  partitions = with_partition s.partitions header.kind place index;
}

-- the headers with a new one
abbrev pub header_inserted : HeaderTable → Header → HeaderTable
header_inserted s header =
    with_header s header (new_place s header.partition.0) (new_index s header.partition.0)

-- the partition places once no object has this index
abbrev pub without_partition : HeaderTable → ℕ → List (Option ObjIndex)
without_partition s index =
    if is_partition (header_at s.headers index)
    then slice_set s.partitions (place_of s.partitions index) None
    else s.partitions

-- the headers without that of an index
abbrev pub header_removed : HeaderTable → ℕ → HeaderTable
header_removed s index = record {
  headers = slice_set s.headers index None;
  partitions = without_partition s index;
}

-- a header of another stage
abbrev pub in_stage : Stage → Header → Header
in_stage stage header = record header { stage = stage }

-- the headers with that of an index in another stage
abbrev pub header_staged : Stage → HeaderTable → ℕ → HeaderTable
header_staged stage s index =
    record s {
      headers = slice_set s.headers index (option_map (in_stage stage) (header_at s.headers index));
    }

-- the index of the next boot partition: the first of the least partition place that no live
-- partition has; none where each is had
abbrev pub first_index : ℕ → ObjIndex
first_index place = record { 0 = PARTITION_PLACES * place }

abbrev pub boot_index : HeaderTable → Option ObjIndex
boot_index s = option_map first_index (position is_none s.partitions)

-- the header is that of the object with this serial
abbrev pub has_serial : ℕ → Option Header → Bool
has_serial serial header = option_map_or (λ h. h.serial.0 == serial) header false

-- the header is that of an object of the kind
abbrev pub has_kind : Kind → Option Header → Bool
has_kind kind header = option_map_or (λ h. kind_number h.kind == kind_number kind) header false

-- fewer partitions live than there can be
abbrev pub has_partition_place : HeaderTable → Bool
has_partition_place s = nat_lt (count_by is_partition s.headers) PARTITIONS
