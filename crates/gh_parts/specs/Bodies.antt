-- What the body at an object's index shows: the row of a bell or a queue, the copy of an extent's
-- span, the mapping rows of an address space.
use Rattle.std.specs.Prelude.{ℕ, Bool, true, false, List, [], map, Option, Some, None}
use Rattle.gh_base.specs.declared.kind.Kind.{Kind}
use Rattle.gh_base.specs.declared.kind.Kind.TheVariants as kind
use Rattle.gh_addrspace.specs.Space.{Space as AddressSpace}
use Rattle.gh_addrspace.specs.declared.mapping.Mapping.{Mapping}
use Rattle.gh_model.specs.Changes.{serial_of}
use Rattle.gh_model.specs.declared.memory.Span.{Span}
use Rattle.gh_model.specs.declared.rows.BellRow.{BellRow}
use Rattle.gh_model.specs.declared.rows.MappingRow.{MappingRow}
use Rattle.gh_model.specs.declared.rows.ObjectRow.{ObjectRow}
use Rattle.gh_model.specs.declared.rows.QueueRow.{QueueRow}
use Rattle.gh_objects.specs.declared.header.Header.{Header}
use Rattle.gh_parts.specs.Index.{index_of}
use Rattle.gh_parts.specs.Shares.{body_at}
use Rattle.gh_parts.specs.declared.body.Body.{Body}
use Rattle.gh_parts.specs.declared.body.Body.TheVariants.{Nothing, Bell, NewQueue, Queue, Space}
use Rattle.gh_parts.specs.declared.body.Body.TheVariants.{Extent}
use Rattle.gh_parts.specs.declared.shares.Place.{Place}

-- the body of the live object with this serial; that of nothing where none has it
abbrev pub body_of : List (Option Header) → List (List Place) → ℕ → Body
body_of headers shares serial = body_at shares (index_of headers serial)

-- a bell's row
abbrev pub bell_in : ℕ → Body → Option BellRow
bell_in serial (Bell words) = Some (record {
  serial = serial_of serial;
  flags = words.flags;
  enable = words.enable;
  ack = words.ack;
})
bell_in serial _ = None

-- a queue's row; one that isn't configured has no room
abbrev pub queue_in : ℕ → Body → Option QueueRow
queue_in serial NewQueue =
    Some (record { serial = serial_of serial; depth = 0; size = 0; messages = [] })
queue_in serial (Queue queue) = Some (record {
  serial = serial_of serial;
  depth = queue.depth;
  size = queue.size;
  messages = queue.messages;
})
queue_in serial _ = None

-- the copy of an extent's span
abbrev pub span_in : ℕ → Body → Option Span
span_in serial (Extent span) = span
span_in serial _ = None

-- the mapping rows of an address space
abbrev pub mapping_row : ℕ → Mapping → MappingRow
mapping_row space mapping = record {
  space = serial_of space;
  extent = mapping.row.extent;
  base = mapping.row.base;
  offset = mapping.row.offset;
  count = mapping.row.count;
  access = mapping.row.access;
  handle = mapping.row.handle;
}

abbrev pub mappings_in : ℕ → Body → List MappingRow
mappings_in serial (Space space) = map (mapping_row serial) space.mappings
mappings_in serial _ = []

-- the address space in a body
abbrev pub space_in : Body → Option AddressSpace
space_in (Space space) = Some space
space_in _ = None

-- the body is that of a kind; partitions and capability spaces have all in the journal
abbrev pub is_body_of : Kind → Body → Bool
is_body_of kind.Bell (Bell words) = true
is_body_of kind.Queue NewQueue = true
is_body_of kind.Queue (Queue queue) = true
is_body_of kind.Space (Space space) = true
is_body_of kind.Extent (Extent span) = true
is_body_of kind.Partition Nothing = true
is_body_of kind.Cspace Nothing = true
is_body_of _ _ = false

-- the body is that of the object's kind, if there is the object
abbrev pub fits_body : Body → Option ObjectRow → Bool
fits_body body None = true
fits_body body (Some row) = is_body_of row.kind body
