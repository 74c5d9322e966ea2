-- What the calls on memory come to: their own refusals in order, and their changes. Registers are
-- in bytes, rows in pages of 4,096 bytes.
use Rattle.std.specs.Prelude.{◌==◌, ◌&&◌, ◌||◌, ◌+◌, ◌*◌, ◌/◌, ◌%◌}
use Rattle.std.specs.Prelude.{not, ℕ, Bool, false, List, [], ◌∷◌, length, Option, Some}
use Rattle.std.specs.Prelude.{None, nat_lt, nat_le, find, count_by, if◌then◌else◌}
use Rattle.std.specs.List.{list_any}
use Rattle.gh_base.specs.Reply.{register_reply}
use Rattle.gh_base.specs.declared.access.Access.{Access}
use Rattle.gh_base.specs.declared.errno.Errno.TheVariants.{ArgInval, ArgSize, AddrInval}
use Rattle.gh_base.specs.declared.errno.Errno.TheVariants.{AddrOvfl, Busy, Denied, Nomem}
use Rattle.gh_base.specs.declared.ids.PageNo.{PageNo}
use Rattle.gh_base.specs.declared.ids.Serial.{Serial}
use Rattle.gh_base.specs.declared.kind.Stage.TheVariants.{Ready}
use Rattle.gh_base.specs.declared.limits.TheConstants.{PAGE_BYTES, SPACE_PAGES, SPACE_ROWS}
use Rattle.gh_model.specs.declared.change.Decision.{Decision}
use Rattle.gh_model.specs.declared.change.Decision.TheVariants.{Refuse, Make}
use Rattle.gh_model.specs.declared.change.Change.TheVariants.{SetStage, AddExtent, MovePages}
use Rattle.gh_model.specs.declared.change.Change.TheVariants.{PutMapping, DropMapping}
use Rattle.gh_model.specs.declared.rows.ExtentRow.{ExtentRow}
use Rattle.gh_model.specs.declared.rows.MappingRow.{MappingRow}
use Rattle.gh_model.specs.declared.rows.CpuRow.{CpuRow}
use Rattle.gh_model.specs.declared.state.State.{State}
use Rattle.gh_model.specs.Access.{access_at}
use Rattle.gh_model.specs.Boot.{access_fits, overlaps, is_row_of}
use Rattle.gh_model.specs.Changes.{is_mapping}
use Rattle.gh_model.specs.Decisions.{done, make_one, grant_at}
use Rattle.gh_model.specs.Memory.{holds_all}
use Rattle.gh_model.specs.Registers.{has_partial, user_access}
use Rattle.gh_model.specs.Rows.{is_extent, cpu_row}

-- the page of an address, or the pages of a size
abbrev pub page_of : ℕ → ℕ
page_of bytes = bytes / PAGE_BYTES

-- the address space that a call names; 0 is the caller's own, which isn't looked up
abbrev pub row_space : Option CpuRow → Serial
row_space None = record { 0 = 0 }
row_space (Some row) = row.space

-- the space that a call names: 0 is the CPU's own, and else it is granted
abbrev pub named_space : State → ℕ → ℕ → List Serial → Serial
named_space s cpu space grants = if space == 0 then row_space (cpu_row s cpu) else grant_at grants 0

-- the extent that map and unmap name is looked up behind the address space
abbrev pub named_extent : ℕ → List Serial → Serial
named_extent space grants = if space == 0 then grant_at grants 0 else grant_at grants 1

-- the pages of an extent that map and unmap mean: with PARTIAL those from an offset on, else the
-- span
abbrev pub meant_offset : ℕ → ℕ → ℕ
meant_offset flags offset = if has_partial flags then page_of offset else 0

-- how many pages of an extent map and unmap mean
abbrev pub meant_count : ExtentRow → ℕ → ℕ → ℕ
meant_count row flags size = if has_partial flags then page_of size else row.count

-- map: a row with handle 0
abbrev pub mapping_refused :
    State → Serial → ExtentRow → ℕ → ℕ → ℕ → ℕ → Decision → Decision
mapping_refused s space row base offset count access others =
    if nat_lt SPACE_PAGES (base + count) then Refuse AddrOvfl
    else (if nat_lt row.count (offset + count) then Refuse ArgSize
    else (if not (access_fits access row.access.0) then Refuse Denied
    else (if list_any (overlaps space.0 base count) s.mappings then Refuse Busy
    else (if nat_le SPACE_ROWS (count_by (is_row_of space.0) s.mappings) then Refuse Nomem
    else others))))

-- the mapping row of a space, an extent, a first page, an offset, a count and an access
abbrev pub mapped_row : Serial → Serial → ℕ → ℕ → ℕ → ℕ → MappingRow
mapped_row space extent base offset count access = record {
  space = space;
  extent = extent;
  base = base;
  offset = offset;
  count = count;
  access = record { 0 = access };
  handle = 0;
}

-- map, where the extent has this row: the mapping is put in, unless it is refused
abbrev pub mapped_at :
    State → Serial → Serial → ExtentRow → ℕ → ℕ → ℕ → ℕ → Decision
mapped_at s space extent row base offset count access =
    mapping_refused s space row base offset count access
    (make_one (PutMapping (mapped_row space extent base offset count access)) done)

-- map, where the extent has this row, if it has one
abbrev pub mapped :
    State → Serial → Serial → ℕ → ℕ → ℕ → ℕ → ℕ → Option ExtentRow
    → Decision
mapped s space extent base access flags offset size None = Refuse Denied
mapped s space extent base access flags offset size (Some row) =
    mapped_at s space extent row (page_of base) (meant_offset flags offset)
    (meant_count row flags size) access

-- map: the pages of an extent that are meant get a mapping of the space, from the base on
abbrev pub map : State → Serial → Serial → ℕ → ℕ → ℕ → ℕ → ℕ → Decision
map s space extent base attributes flags offset size =
    mapped s space extent base (user_access attributes) flags offset size
    (find (is_extent extent.0) s.extents)

-- unmap: the row of handle 0 with this extent, base, offset and count goes
abbrev pub unmapped_row : Option MappingRow → Decision
unmapped_row None = Refuse AddrInval
unmapped_row (Some row) = make_one (DropMapping row) done

-- the mapping of a space that has just this extent, base, offset and count
abbrev pub mapping_row : State → Serial → Serial → ℕ → ℕ → ℕ → Option MappingRow
mapping_row s space extent base offset count =
    find (is_mapping space.0 extent.0 base offset count) s.mappings

-- unmap, where the extent has this row, if it has one
abbrev pub unmapped :
    State → Serial → Serial → ℕ → ℕ → ℕ → ℕ → Option ExtentRow → Decision
unmapped s space extent base flags offset size None = Refuse AddrInval
unmapped s space extent base flags offset size (Some row) =
    unmapped_row
    (mapping_row s space extent (page_of base) (meant_offset flags offset)
    (meant_count row flags size))

-- unmap: the mapping of just these pages of the extent goes
abbrev pub unmap : State → Serial → Serial → ℕ → ℕ → ℕ → ℕ → Decision
unmap s space extent base flags offset size =
    unmapped s space extent base flags offset size (find (is_extent extent.0) s.extents)

-- the extent holds each page of a run of the machine's pages
abbrev pub holds_run : List Serial → Serial → ℕ → ℕ → Bool
holds_run holders extent first count =
    nat_le (first + count) (length holders) && holds_all holders extent.0 first count

-- derive: the child gets its span, its access and its parent, holds the pages and is ready
abbrev pub derived_row : Serial → Serial → ExtentRow → ℕ → ℕ → ℕ → ExtentRow
derived_row child parent row offset count access = record {
  serial = child;
  parent = parent;
  first = record { 0 = row.first.0 + offset };
  count = count;
  access = record { 0 = access };
  parcel = false;
}

-- derive, where the parent has this row: refused where the span passes its end, where it doesn't
-- hold the pages or has less access
abbrev pub derived_at :
    State → Serial → Serial → ExtentRow → ℕ → ℕ → ℕ → Decision
derived_at s child parent row offset count access =
    if nat_lt row.count (offset + count) then Refuse ArgSize
    else (if not (holds_run s.holders parent (row.first.0 + offset) count)
    || not (access_fits access row.access.0)
    then Refuse Denied
    else Make (SetStage child Ready ∷ AddExtent (derived_row child parent row offset count access)
    ∷ MovePages (row.first.0 + offset) count child ∷ []) done)

-- derive, where the parent has this row, if it has one
abbrev pub derived :
    State → Serial → Serial → ℕ → ℕ → ℕ → Option ExtentRow → Decision
derived s child parent offset size access None = Refuse ArgSize
derived s child parent offset size access (Some row) =
    derived_at s child parent row (page_of offset) (page_of size) access

-- derive: the child is an extent of its own, from an offset in its parent on
abbrev pub derive : State → Serial → Serial → ℕ → ℕ → ℕ → Decision
derive s child parent offset size access =
    derived s child parent offset size access (find (is_extent parent.0) s.extents)

-- donate: the pages move. The offset counts from the start of the giver's span

-- how the receiver must be related to the giver: 0 its child, 1 its parent, 2 its sibling
abbrev pub are_related : ℕ → ExtentRow → ExtentRow → Bool
are_related relation giver receiver =
    if relation == 0 then receiver.parent.0 == giver.serial.0
    else (if relation == 1 then giver.parent.0 == receiver.serial.0
    else ((relation == 2) && (giver.parent.0 == receiver.parent.0)
    && not (giver.serial.0 == receiver.serial.0)))

-- a run of pages lies in the span of a row
abbrev pub is_within_span : ExtentRow → ℕ → ℕ → Bool
is_within_span row first count =
    nat_le row.first.0 first && nat_le (first + count) (row.first.0 + row.count)

-- donate from one row to another: refused where they aren't so related, where the pages aren't in
-- the receiver's span, or where the giver doesn't hold them
abbrev pub donated_at : State → ℕ → ExtentRow → ExtentRow → ℕ → ℕ → Decision
donated_at s relation giver receiver first count =
    if not (are_related relation giver receiver) then Refuse ArgInval
    else (if not (is_within_span receiver first count) then Refuse AddrInval
    else (if not (holds_run s.holders giver.serial first count) then Refuse Denied
    else make_one (MovePages first count receiver.serial) done))

-- donate, where the receiver has this row, if it has one
abbrev pub donated_to :
    State → ℕ → ℕ → ℕ → ExtentRow → Option ExtentRow → Decision
donated_to s relation offset count giver None = Refuse ArgInval
donated_to s relation offset count giver (Some receiver) =
    donated_at s relation giver receiver (giver.first.0 + offset) count

-- donate, where the giver has this row, if it has one
abbrev pub donated : State → ℕ → Serial → ℕ → ℕ → Option ExtentRow → Decision
donated s relation receiver offset count None = Refuse ArgInval
donated s relation receiver offset count (Some giver) =
    donated_to s relation offset count giver (find (is_extent receiver.0) s.extents)

-- donate: pages of the giver are the receiver's
abbrev pub donate : State → ℕ → Serial → Serial → ℕ → ℕ → Decision
donate s options giver receiver offset size =
    donated s (options % 256) receiver (page_of offset) (page_of size)
    (find (is_extent giver.0) s.extents)

-- as_lookup: the machine address of the page, and the access. An address space has 4,096 pages
abbrev pub looked_up : Option (PageNo × Access) → Decision
looked_up None = Refuse AddrInval
looked_up (Some found) = Make [] (register_reply 0 (found.0.0 * PAGE_BYTES) found.1.0 0)

-- as_lookup: where a page of the space leads, and with what access
abbrev pub as_lookup : State → Serial → ℕ → Decision
as_lookup s space address =
    if nat_lt (page_of address) SPACE_PAGES then looked_up (access_at s space.0 (page_of address))
    else Refuse AddrInval
