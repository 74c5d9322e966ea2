-- How the partition places and the live partitions go together.
use Rattle.std.specs.Prelude.{◌≡◌, ℕ, Bool, true, false, List, Option, Some}
use Rattle.std.specs.Prelude.{None, is_some, length, count_by, if◌then◌else◌}
use Rattle.gh_base.specs.declared.ids.ObjIndex.{ObjIndex}
use Rattle.gh_base.specs.declared.limits.TheConstants.{OBJECT_INDICES, PARTITIONS}
use Rattle.gh_objects.specs.declared.header.Header.{Header}
use Rattle.gh_objects.specs.Headers.{header_at, is_partition, is_had_by}

-- every index and every partition place stands in its list; a live partition has one partition
-- place, and any other index none; and as many places are had as partitions live
pub record HavePlaces (headers : List (Option Header))
    (partitions : List (Option ObjIndex)) : Type 0 where
  pub indices : length headers ≡ OBJECT_INDICES
  pub places : length partitions ≡ PARTITIONS
  pub one_each :
      (index : ℕ)
      → count_by (is_had_by index) partitions
      ≡ (if is_partition (header_at headers index) then 1 else 0)
  pub as_many : count_by is_some partitions ≡ count_by is_partition headers

-- the partition place, if there is one
abbrev pub place_if : Bool → ℕ → Option ℕ
place_if true place = Some place
place_if false place = None
