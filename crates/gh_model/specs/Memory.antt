-- Who holds the pages of the machine, and which of them the rows of an address space show.
use Rattle.std.specs.Prelude.{◌==◌, ◌&&◌, ◌+◌, ◌-◌, ◌≤◌, ℕ, Bool}
use Rattle.std.specs.Prelude.{List, Option, Some, None, IsTrue, find, length, take, drop}
use Rattle.std.specs.Prelude.{slice_get, nat_le, nat_lt, if◌then◌else◌}
use Rattle.std.specs.List.{list_all}
use Rattle.gh_base.specs.declared.ids.PageNo.{PageNo}
use Rattle.gh_base.specs.declared.ids.Serial.{Serial}
use Rattle.gh_model.specs.Access.{is_holder}
use Rattle.gh_model.specs.declared.memory.MapRow.{MapRow}
use Rattle.gh_model.specs.declared.memory.Span.{Span}

-- the extent is the one of this serial
abbrev pub is_serial : ℕ → Serial → Bool
is_serial extent serial = serial.0 == extent

-- the extent holds the page, where each page of the machine has one holder
abbrev pub holds_page : List Serial → ℕ → ℕ → Bool
holds_page holders extent page = is_holder extent (slice_get holders page)

-- the extent holds each page of the run
abbrev pub holds_all : List Serial → ℕ → ℕ → ℕ → Bool
holds_all holders extent first count = list_all (is_serial extent) (take count (drop first holders))

-- the run is one of the machine's, and the extent holds each of its pages
pub record HoldsRun (holders : List Serial) (extent first count : ℕ) : Type 0 where
  pub within : first + count ≤ length holders
  pub held : IsTrue (holds_all holders extent first count)

-- the row covers the page of the address space
abbrev pub row_covers : ℕ → MapRow → Bool
row_covers v row = nat_le row.base v && nat_lt v (row.base + row.count)

-- the machine page that a row names at a page which it covers
abbrev pub row_page : Span → MapRow → ℕ → ℕ
row_page span row v = span.first.0 + row.offset + v - row.base

-- the machine page with the row's access, where the row's extent is now its holder
abbrev pub held_access : List Serial → MapRow → ℕ → Option (PageNo × ℕ)
held_access holders row page =
    if holds_page holders row.extent.0 page then Some (record { 0 = page }, row.access.0) else None

-- what a row gives at a page which it covers, where its extent has this span
abbrev pub span_access : List Serial → MapRow → ℕ → Option Span → Option (PageNo × ℕ)
span_access holders row v None = None
span_access holders row v (Some span) = held_access holders row (row_page span row v)

-- what the row that covers a page gives there
abbrev pub covering_access :
    (ℕ → Option Span) → List Serial → ℕ → Option MapRow → Option (PageNo × ℕ)
covering_access spans holders v None = None
covering_access spans holders v (Some row) = span_access holders row v (spans row.extent.0)

-- the machine page and the access at a page of an address space with these rows: none where no row
-- covers it, or the row's extent doesn't hold the machine page now
abbrev pub access_of :
    (ℕ → Option Span) → List Serial → List MapRow → ℕ → Option (PageNo × ℕ)
access_of spans holders rows v = covering_access spans holders v (find (row_covers v) rows)
