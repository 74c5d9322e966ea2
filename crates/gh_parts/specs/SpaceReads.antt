-- What an address space's body tells of its mapping rows and of the pages that it shows.
use Rattle.std.specs.Prelude.{ℕ, Bool, false, length, Option, None}
use Rattle.std.specs.List.{list_any}
use Rattle.std.specs.Option.{option_map}
use Rattle.gh_base.specs.declared.access.Access.{Access}
use Rattle.gh_base.specs.declared.ids.PageNo.{PageNo}
use Rattle.gh_base.specs.declared.ids.Serial.{Serial}
use Rattle.gh_addrspace.specs.Rows.{overlaps}
use Rattle.gh_addrspace.specs.Space.{chosen_row, lookup_at}
use Rattle.gh_addrspace.specs.declared.mapping.Chosen.TheVariants.{Pages}
use Rattle.gh_model.specs.declared.memory.MapRow.{MapRow}
use Rattle.gh_model.specs.declared.rows.MappingRow.{MappingRow}
use Rattle.gh_parts.specs.Slots.{no_serial}
use Rattle.gh_parts.specs.declared.body.Body.{Body}
use Rattle.gh_parts.specs.declared.body.Body.TheVariants.{Space}

-- a row of these pages of an address space, whatever is mapped there
abbrev pub run_row : ℕ → ℕ → MapRow
run_row base count = record {
  extent = no_serial;
  base = base;
  offset = 0;
  count = count;
  access = record { 0 = 0 };
  handle = 0;
}

-- a row of the address space has one of these pages
abbrev pub overlaps_in : ℕ → ℕ → Body → Bool
overlaps_in base count (Space space) = list_any (overlaps (run_row base count)) space.mappings
overlaps_in base count body = false

-- how many rows it has
abbrev pub rows_in : Body → ℕ
rows_in (Space space) = length space.mappings
rows_in body = 0

-- a row with its address space
abbrev pub row_with : Serial → MapRow → MappingRow
row_with space row = record {
  space = space;
  extent = row.extent;
  base = row.base;
  offset = row.offset;
  count = row.count;
  access = row.access;
  handle = row.handle;
}

-- the row of the map call that is of these pages of the extent
abbrev pub row_in : Serial → Serial → ℕ → ℕ → ℕ → Body → Option MappingRow
row_in serial extent base offset count (Space space) =
    option_map (row_with serial) (chosen_row (Pages extent base offset count) space)
row_in serial extent base offset count body = None

-- the machine page and the access at a page
abbrev pub access_in : ℕ → Body → Option (PageNo × Access)
access_in page (Space space) = lookup_at space page
access_in page body = None
