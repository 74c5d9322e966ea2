-- How headers and counts lie: a bit for each index that is taken, a name for each live object, how
-- many objects of each kind there are, and two lists of serials. No public clause cites this
-- module.
use Rattle.std.specs.Prelude.{◌≡◌, ◌==◌, ℕ, ◌/◌, ◌%◌, ◌<◌}
use Rattle.std.specs.Prelude.{List, Option, length, is_none, slice_index}
use Rattle.std.specs.Int.{bit_at}
use Rattle.gh_base.specs.declared.ids.Serial.{Serial}
use Rattle.gh_base.specs.declared.limits.TheConstants.{OBJECT_INDICES, PARTITIONS, PARTITION_PLACES}
use Rattle.gh_objects.specs.declared.header.Header.{Header}
use Rattle.gh_objects.specs.declared.count.Count.{Count}
use Rattle.gh_objects.specs.Headers.{header_at}
use Rattle.gh_objects.specs.Counts.{doomed, retired}
use Rattle.gh_objects.specs.Kinds.{AreCounted}
use Rattle.gh_objects.specs.Names.{AreNamed}

-- the bit of an index in the words of the partition places
abbrev pub bit_of : List ℕ → ℕ → ℕ
bit_of taken index =
    bit_at (slice_index taken (index / PARTITION_PLACES)) (index % PARTITION_PLACES)

-- an index has no header exactly where its bit is 0
pub record IsMarked (headers : List (Option Header)) (taken : List ℕ) : Type 0 where
  pub indices : length headers ≡ OBJECT_INDICES
  pub words : length taken ≡ PARTITIONS
  pub bits : (index : ℕ) → index < OBJECT_INDICES
      → is_none (header_at headers index) ≡ (bit_of taken index == 0)

-- each index has its bit, each live object its name, and each kind the number of its objects
pub record IsKept (headers : List (Option Header)) (taken names kinds : List ℕ) : Type 0 where
  pub marked : IsMarked headers taken
  pub named : AreNamed headers names
  pub counted : AreCounted headers kinds

-- the lists have the serials of the doomed and of the retired objects
pub record AreListed (counts : List (Option Count))
    (doomed_list retired_list : List Serial) : Type 0 where
  pub indices : length counts ≡ OBJECT_INDICES
  pub doomed_listed : doomed_list ≡ doomed counts
  pub retired_listed : retired_list ≡ retired counts
