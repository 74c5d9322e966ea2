-- The row of an object, as the parts have it at its index, and what refers to none.
use Rattle.std.specs.Prelude.{◌==◌, ◌||◌, not, ℕ, Bool, true, Option, None, slice_index_or}
use Rattle.std.specs.List.{list_any}
use Rattle.std.specs.Option.{option_map}
use Rattle.gh_extent.specs.Extents.{is_child_of}
use Rattle.gh_model.specs.declared.rows.ObjectRow.{ObjectRow}
use Rattle.gh_objects.specs.Headers.{header_at}
use Rattle.gh_objects.specs.declared.header.Header.{Header}
use Rattle.gh_parts.specs.Index.{serial_at}
use Rattle.gh_parts.specs.Shares.{place_at}
use Rattle.gh_parts.specs.declared.journal.Memory.{Memory}
use Rattle.gh_parts.specs.declared.journal.Memory.TheVariants.{Bare, Held}
use Rattle.gh_parts.specs.declared.parts.Parts.{Parts}

-- the row of a header at an index
abbrev pub row_of_header : Parts → ℕ → Header → ObjectRow
row_of_header parts index header = record {
  serial = header.serial;
  kind = header.kind;
  partition = serial_at parts.table.headers header.partition.0;
  stage = header.stage;
  cost = (place_at parts.shares index).cost;
  retired = slice_index_or parts.journal.retirements index None;
}

-- the row of the object at an index, if there is one
abbrev pub object_row_at : Parts → ℕ → Option ObjectRow
object_row_at parts index =
    option_map (row_of_header parts index) (header_at parts.table.headers index)

-- no extent has the serial as its parent, which is no object's: of those only 0, the root's parent,
-- could be one
abbrev pub is_childless : Memory → ℕ → Bool
is_childless (Bare pages) serial = true
is_childless (Held extents) serial =
    not (serial == 0) || not (list_any (is_child_of serial) extents.rows)
