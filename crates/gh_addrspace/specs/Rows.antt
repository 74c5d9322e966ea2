-- The mapping rows of an address space: which pages they cover, and which machine pages they name.
use Rattle.std.specs.Prelude.{◌==◌, ◌&&◌, ◌+◌, ◌-◌}
use Rattle.std.specs.Prelude.{◌≤◌, ℕ, Bool, List, Option, Some, not}
use Rattle.std.specs.Prelude.{filter, find, nat_le, nat_lt}
use Rattle.std.specs.List.{list_any}
use Rattle.gh_base.specs.declared.limits.TheConstants.{SPACE_PAGES}
use Rattle.gh_addrspace.specs.declared.mapping.Chosen.{Chosen}
use Rattle.gh_addrspace.specs.declared.mapping.Chosen.TheVariants.{Pages, Parcel}
use Rattle.gh_addrspace.specs.declared.mapping.Mapping.{Mapping}
use Rattle.gh_model.specs.Memory.{row_covers}
use Rattle.gh_model.specs.declared.memory.MapRow.{MapRow}
use Rattle.gh_model.specs.declared.memory.Span.{Span}
use Rattle.gh_pagetable.specs.Map.{Target}
use Rattle.gh_pagetable.specs.declared.descriptor.TheConstants.{NUMBERED_PAGES}

-- the row covers the page
abbrev pub covers : ℕ → Mapping → Bool
covers v m = row_covers v m.row

-- the row that covers the page
abbrev pub covering : List Mapping → ℕ → Option Mapping
covering ms v = find (covers v) ms

-- some row covers the page
abbrev pub is_covered : List Mapping → ℕ → Bool
is_covered ms v = list_any (covers v) ms

-- the machine page that a row names at a page which it covers
abbrev pub page_at : Mapping → ℕ → ℕ
page_at m v = m.page.0 + v - m.row.base

-- the machine page that a row names, with the row's access
abbrev pub target_at : Mapping → ℕ → Target
target_at m v = Some (record { 0 = page_at m v }, m.row.access.0)

-- the row of an extent of this span, with the machine page that its first page names
abbrev pub mapping_of : MapRow → Span → Mapping
mapping_of row span = record { row = row; page = record { 0 = span.first.0 + row.offset } }

-- a row lies in the address space, and its machine pages have numbers
pub record IsBounded (m : Mapping) : Type 0 where
  pub space : m.row.base + m.row.count ≤ SPACE_PAGES
  pub machine : m.page.0 + m.row.count ≤ NUMBERED_PAGES

-- two rows have a page of the space in common
abbrev pub overlaps : MapRow → Mapping → Bool
overlaps row m =
    nat_lt row.base (m.row.base + m.row.count) && nat_lt m.row.base (row.base + row.count)

-- the row is one of those that are chosen: of the map call and of these pages, or of the parcel
-- with this handle
abbrev pub is_chosen : Chosen → Mapping → Bool
is_chosen (Pages extent base offset count) m =
    (m.row.handle == 0) && (m.row.extent.0 == extent.0) && (m.row.base == base)
    && (m.row.offset == offset) && (m.row.count == count)
is_chosen (Parcel handle) m = m.row.handle == handle

-- the row is chosen, and covers the page
abbrev pub hides : Chosen → ℕ → Mapping → Bool
hides chosen v m = is_chosen chosen m && covers v m

-- the rows that aren't chosen
abbrev pub others : Chosen → List Mapping → List Mapping
others chosen ms = filter (λ m. not (is_chosen chosen m)) ms

-- the machine page is one of the run
abbrev pub in_run : ℕ → ℕ → ℕ → Bool
in_run first count page = nat_le first page && nat_lt page (first + count)
