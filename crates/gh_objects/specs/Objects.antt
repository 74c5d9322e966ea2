-- The live objects as callers see them: headers and counts by index, apart from each other, with
-- the partition places that the live partitions have.
use Rattle.std.specs.Prelude.{◌≡◌, ℕ, List, Option, Some, None, length, slice_set}
use Rattle.std.specs.Option.{option_map}
use Rattle.gh_base.specs.declared.ids.Serial.{Serial}
use Rattle.gh_base.specs.declared.limits.TheConstants.{OBJECT_INDICES}
use Rattle.gh_objects.specs.declared.header.Header.{Header}
use Rattle.gh_objects.specs.declared.count.Count.{Count}
use Rattle.gh_objects.specs.Headers.{HeaderTable, no_headers, header_at}
use Rattle.gh_objects.specs.Headers.{header_inserted, header_removed, new_index}
use Rattle.gh_objects.specs.Counts.{no_counts, count_at, new_count, count_changed}

-- the headers with the partition places, and the counts
pub record Objects : Type 0 where
  pub table : HeaderTable
  pub counts : List (Option Count)

-- no object lives
abbrev pub no_objects : Objects
no_objects = record { table = no_headers; counts = no_counts }

-- the serial in a header
abbrev pub header_serial : Header → Serial
header_serial header = header.serial

-- the serial of a count
abbrev pub count_serial : Count → Serial
count_serial count = count.serial

-- every index stands in both lists, and has a count exactly where it has a header, both of one
-- serial
pub record ArePaired (s : Objects) : Type 0 where
  pub headers : length s.table.headers ≡ OBJECT_INDICES
  pub counts : length s.counts ≡ OBJECT_INDICES
  pub paired : (index : ℕ) → option_map header_serial (header_at s.table.headers index)
      ≡ option_map count_serial (count_at s.counts index)

-- the objects with a new one
abbrev pub inserted : Objects → Header → Objects
inserted s header = record {
  table = header_inserted s.table header;
  counts =
      slice_set s.counts (new_index s.table header.partition.0) (Some (new_count header.serial));
}

-- the objects without that of an index
abbrev pub removed : Objects → ℕ → Objects
removed s index = record {
  table = header_removed s.table index;
  counts = slice_set s.counts index None;
}

-- the objects with the count of an index changed
abbrev pub changed : (Count → Count) → Objects → ℕ → Objects
changed change s index = record s { counts = count_changed change s.counts index }
