-- The parts with other pages and extents.
use Rattle.std.specs.Prelude.{◌≡◌, ⊤, false, Some, IsSomeAnd}
use Rattle.gh_extent.specs.Extents.{Extents, IsNewChild, IsSpanIn, row_of, row_span, with_row}
use Rattle.gh_model.specs.declared.memory.Span.{Span}
use Rattle.gh_model.specs.declared.rows.ExtentRow.{ExtentRow}
use Rattle.gh_parts.specs.Bodies.{body_of}
use Rattle.gh_parts.specs.Index.{index_of}
use Rattle.gh_parts.specs.Shares.{with_body}
use Rattle.gh_parts.specs.declared.body.Body.{Body}
use Rattle.gh_parts.specs.declared.body.Body.TheVariants.{Extent}
use Rattle.gh_parts.specs.declared.journal.Memory.{Memory}
use Rattle.gh_parts.specs.declared.journal.Memory.TheVariants.{Bare, Held}
use Rattle.gh_parts.specs.declared.parts.Parts.{Parts}

-- an extent gets its span
abbrev pub spanned : Span → Body → Body
spanned span (Extent old) = Extent (Some span)
spanned span body = body

-- the row is that of a new extent, whose parent spans what it spans, and of no parcel
pub record IsNewRow (extents : Extents) (row : ExtentRow) : Type 0 where
  pub child : IsNewChild extents row.serial.0 row.parent.0
  pub span : IsSomeAnd (row_of extents row.parent.0) (IsSpanIn (row_span row))
  pub plain : row.parcel ≡ false

abbrev pub TakesRow : ExtentRow → Memory → Type 0
TakesRow row (Bare pages) = ⊤
TakesRow row (Held extents) = IsNewRow extents row

-- the extents with one row more
abbrev pub with_extent : ExtentRow → Memory → Memory
with_extent row (Bare pages) = Bare pages
with_extent row (Held extents) = Held (with_row extents row)

-- the parts with other memory
abbrev pub with_memory : Memory → Parts → Parts
with_memory memory parts = record parts { journal = record (parts.journal) { memory = memory } }

-- and with the copy of an extent's span
abbrev pub with_span : ExtentRow → Parts → Parts
with_span row parts = record parts {
  shares = with_body parts.shares (index_of parts.table.headers row.serial.0)
      (spanned (row_span row) (body_of parts.table.headers parts.shares row.serial.0));
}
