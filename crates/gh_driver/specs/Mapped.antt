-- Which pages a mapping row maps.
use Rattle.std.specs.Prelude.{◌&&◌, ◌+◌, ℕ, Bool, nat_le, nat_lt}
use Rattle.gh_model.specs.declared.rows.MappingRow.{MappingRow}

-- the row maps the page of its address space
abbrev pub maps_page : ℕ → MappingRow → Bool
maps_page page row = nat_le row.base page && nat_lt page (row.base + row.count)
