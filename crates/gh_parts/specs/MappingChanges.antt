-- How an address space's body is changed, and the parts with such a body.
use Rattle.std.specs.Prelude.{◌≡◌, ◌+◌, ◌≤◌, ◌++◌, ◌∷◌, ⊤, ℕ, List, [], Option, None, IsSomeAnd}
use Rattle.gh_base.specs.declared.ids.Serial.{Serial}
use Rattle.gh_addrspace.specs.Rows.{others}
use Rattle.gh_addrspace.specs.Space.{Shows, Space as Mapped, span_map_refusal}
use Rattle.gh_addrspace.specs.declared.mapping.Chosen.{Chosen}
use Rattle.gh_addrspace.specs.declared.mapping.Chosen.TheVariants.{Pages}
use Rattle.gh_addrspace.specs.declared.mapping.Mapping.{Mapping}
use Rattle.gh_extent.specs.Extents.{Extents, span_of}
use Rattle.gh_model.specs.declared.memory.MapRow.{MapRow}
use Rattle.gh_pagetable.specs.declared.descriptor.TheConstants.{NUMBERED_PAGES}
use Rattle.gh_parts.specs.declared.journal.Memory.{Memory}
use Rattle.gh_parts.specs.declared.journal.Memory.TheVariants.{Bare, Held}
use Rattle.gh_model.specs.declared.memory.Span.{Span}
use Rattle.gh_model.specs.declared.rows.MappingRow.{MappingRow}
use Rattle.gh_parts.specs.Bodies.{body_of}
use Rattle.gh_parts.specs.Index.{index_of}
use Rattle.gh_parts.specs.Shares.{with_body}
use Rattle.gh_parts.specs.declared.body.Body.{Body}
use Rattle.gh_parts.specs.declared.body.Body.TheVariants.{Space}
use Rattle.gh_parts.specs.declared.parts.Parts.{Parts}

-- the rows of the map call of these pages
abbrev pub pages_of : MappingRow → Chosen
pages_of row = Pages row.extent row.base row.offset row.count

-- the rows of these pages are gone; the space shows what it showed
pub record Unmaps (row : MappingRow) (old new : Mapped) : Type 0 where
  pub rows : new.mappings ≡ others (pages_of row) old.mappings
  pub shows : (spans : ℕ → Option Span) (holders : List Serial) → Shows spans holders old
      → Shows spans holders new

-- a row without its address space
abbrev pub map_row : MappingRow → MapRow
map_row row = record {
  extent = row.extent;
  base = row.base;
  offset = row.offset;
  count = row.count;
  access = row.access;
  handle = row.handle;
}

-- the row can be mapped: its extent has a span of the machine's pages, and nothing refuses it
pub record FitsIn (extents : Extents) (row : MappingRow) (space : Mapped) : Type 0 where
  pub span : IsSomeAnd (span_of extents row.extent.0)
      (λ span. span.first.0 + span.count ≤ NUMBERED_PAGES)
  pub free : span_map_refusal space (map_row row) (span_of extents row.extent.0) ≡ None

-- and so in a body, if it is an address space
abbrev pub FitsBody : Memory → MappingRow → Body → Type 0
FitsBody (Held extents) row (Space space) = FitsIn extents row space
FitsBody (Bare pages) row (Space space) = ⊥
FitsBody memory row body = ⊤

-- the row is the last; the space shows who holds the pages as it did
pub record Maps (spans : ℕ → Option Span) (holders : List Serial) (row : MappingRow)
    (old new : Mapped) : Type 0 where
  pub last : Mapping
  pub named : last.row ≡ map_row row
  pub rows : new.mappings ≡ old.mappings ++ last ∷ []
  pub shows : Shows spans holders old → Shows spans holders new

-- an address space has changed so; any other body is as it was
abbrev pub Remaps : (Mapped → Mapped → Type 0) → Body → Body → Type 0
Remaps change (Space old) (Space new) = change old new
Remaps change (Space old) new = ⊥
Remaps change old new = new ≡ old

-- the body of an object has changed so, and nothing else
pub record Rebodied (change : Body → Body → Type 0) (serial : ℕ) (old new : Parts) : Type 0 where
  pub body : Body
  pub so : change (body_of old.table.headers old.shares serial) body
  pub parts : new ≡ record old {
    shares = with_body old.shares (index_of old.table.headers serial) body;
  }
