-- Which machine page stands at a page of an address space, and what may be done with it.
use Rattle.std.specs.Prelude.{◌==◌, ◌&&◌, ◌+◌, ◌-◌, ℕ, Bool, false, Option}
use Rattle.std.specs.Prelude.{Some, None, find, slice_get, nat_le, nat_lt, if◌then◌else◌}
use Rattle.gh_base.specs.declared.access.Access.{Access}
use Rattle.gh_base.specs.declared.ids.PageNo.{PageNo}
use Rattle.gh_base.specs.declared.ids.Serial.{Serial}
use Rattle.gh_model.specs.declared.rows.ExtentRow.{ExtentRow}
use Rattle.gh_model.specs.declared.rows.MappingRow.{MappingRow}
use Rattle.gh_model.specs.declared.state.State.{State}
use Rattle.gh_model.specs.Rows.{is_extent}

-- the row maps this page of this address space
abbrev pub covers : ℕ → ℕ → MappingRow → Bool
covers space page row =
    (row.space.0 == space) && (nat_le row.base page && nat_lt page (row.base + row.count))

-- the extent now holds the page
abbrev pub is_holder : ℕ → Option Serial → Bool
is_holder extent None = false
is_holder extent (Some holder) = holder.0 == extent

-- the extent with this serial is the holder of a page
abbrev pub holds : State → ℕ → ℕ → Bool
holds s extent page = is_holder extent (slice_get s.holders page)

-- the machine page that a row names at a page which it covers
abbrev pub named_page : ExtentRow → MappingRow → ℕ → ℕ
named_page extent row page = extent.first.0 + row.offset + page - row.base

-- the page with the row's access, where the row's extent is now the holder of the page that the row
-- names
abbrev pub row_access :
    State → ℕ → MappingRow → Option ExtentRow → Option (PageNo × Access)
row_access s page row None = None
row_access s page row (Some extent) =
    if holds s row.extent.0 (named_page extent row page)
    then Some (record { 0 = named_page extent row page }, row.access) else None

-- the access that a page of a space has through the row that covers it, if there is one
abbrev pub covered_access : State → ℕ → Option MappingRow → Option (PageNo × Access)
covered_access s page None = None
covered_access s page (Some row) = row_access s page row (find (is_extent row.extent.0) s.extents)

-- the machine page at a page of an address space and its access; none where no row covers it or the
-- extent doesn't hold it
abbrev pub access_at : State → ℕ → ℕ → Option (PageNo × Access)
access_at s space page = covered_access s page (find (covers space page) s.mappings)
