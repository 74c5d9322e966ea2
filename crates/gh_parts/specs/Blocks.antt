-- Where the objects lie: each partition place has a block of indices, and its partition's objects
-- lie in that.
use Rattle.std.specs.Prelude.{◌≡◌, ◌*◌, ◌/◌, ℕ, Some}
use Rattle.gh_base.specs.declared.limits.TheConstants.{PARTITION_PLACES}
use Rattle.gh_objects.specs.Headers.{HeaderTable, header_at, place_of}
use Rattle.gh_objects.specs.Partitions.{HavePlaces}
use Rattle.gh_objects.specs.declared.header.Header.{Header}

-- the partition places are those of the live partitions, and each object lies in the block of its
-- partition's place. A partition that lives in itself is the first of its own block
pub record BlocksStand (table : HeaderTable) : Type 0 where
  pub places : HavePlaces table.headers table.partitions
  pub within : (index : ℕ) (header : Header) → header_at table.headers index ≡ Some header
      → index / PARTITION_PLACES ≡ place_of table.partitions header.partition.0
  pub first : (index : ℕ) (header : Header) → header_at table.headers index ≡ Some header
      → header.partition.0 ≡ index → index ≡ PARTITION_PLACES * place_of table.partitions index
