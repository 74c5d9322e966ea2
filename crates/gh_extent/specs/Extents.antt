-- The extents as callers see them: the row of each, in the order in which they were made, and for
-- each page of the machine its one holder.
use Rattle.std.specs.Prelude.{◌≡◌, ◌≢◌, ◌==◌, ◌&&◌, ◌||◌, ◌+◌}
use Rattle.std.specs.Prelude.{◌≤◌, not, ℕ, Bool, true, false, List, []}
use Rattle.std.specs.Prelude.{◌∷◌, ◌++◌, length, drop, replicate, filter, find}
use Rattle.std.specs.Prelude.{position, Option, Some, None, IsSome, IsSomeAnd, nat_le}
use Rattle.std.specs.Prelude.{nat_lt, All, if◌then◌else◌}
use Rattle.std.specs.List.{list_any, prefix_len}
use Rattle.std.specs.Option.{option_map}
use Rattle.gh_base.specs.declared.access.Access.{Access}
use Rattle.gh_base.specs.declared.errno.Errno.{Errno}
use Rattle.gh_base.specs.declared.errno.Errno.TheVariants.{ArgInval, AddrInval, ArgSize, Denied}
use Rattle.gh_base.specs.declared.ids.PageNo.{PageNo}
use Rattle.gh_base.specs.declared.ids.Serial.{Serial}
use Rattle.gh_base.specs.declared.kind.Relation.{Relation}
use Rattle.gh_base.specs.declared.kind.Relation.TheVariants.{ToChild, ToParent, ToSibling}
use Rattle.gh_extent.specs.declared.extents.TheConstants.{EXTENT_PAGES}
use Rattle.gh_model.specs.Boot.{access_fits, move_pages}
use Rattle.gh_model.specs.Memory.{holds_all, is_serial}
use Rattle.gh_model.specs.Rows.{is_extent}
use Rattle.gh_model.specs.declared.memory.Span.{Span}
use Rattle.gh_model.specs.declared.rows.ExtentRow.{ExtentRow}

-- the extents: their rows in the order in which they were made, and for each page its holder
pub record Extents : Type 0 where
  pub rows : List ExtentRow
  pub holders : List Serial

-- the root extent has no parent: it spans the machine's pages, with every access
abbrev pub root_row : ℕ → Serial → ExtentRow
root_row pages root = record {
  serial = root;
  parent = record { 0 = 0 };
  first = record { 0 = 0 };
  count = pages;
  access = record { 0 = 7 };
  parcel = false;
}

-- the root extent alone, which holds all pages
abbrev pub root_alone : ℕ → Serial → Extents
root_alone pages root = record { rows = root_row pages root ∷ []; holders = replicate pages root }

-- the row of an extent
abbrev pub row_of : Extents → ℕ → Option ExtentRow
row_of s extent = find (is_extent extent) s.rows

-- the serial has an extent row
abbrev pub HasRow : Extents → ℕ → Type 0
HasRow s extent = IsSome (row_of s extent)

-- a new extent: it has no row yet, and its parent has one
pub record IsNewChild (s : Extents) (child parent : ℕ) : Type 0 where
  pub unused : row_of s child ≡ None
  pub above : HasRow s parent

-- the pages that a row spans
abbrev pub row_span : ExtentRow → Span
row_span row = record { first = row.first; count = row.count; access = row.access }

-- the span of an extent
abbrev pub span_of : Extents → ℕ → Option Span
span_of s extent = option_map row_span (row_of s extent)

-- there are as many pages as a machine can have, and each extent spans some of the machine's
pub record AreWithin (s : Extents) : Type 0 where
  pub most : length s.holders ≤ EXTENT_PAGES
  pub spans : All (λ row. row.first.0 + row.count ≤ length s.holders) s.rows

-- the parent has a row; the root has no parent
abbrev pub HasParent : Extents → ExtentRow → Type 0
HasParent s row = row.parent.0 ≢ 0 → HasRow s row.parent.0

-- each parent has a row, and so has the holder of each page
pub record IsTree (s : Extents) : Type 0 where
  pub within : AreWithin s
  pub parents : All (HasParent s) s.rows
  pub holders : All (λ holder. HasRow s holder.0) s.holders

-- the extents with one row more
abbrev pub with_row : Extents → ExtentRow → Extents
with_row s row = record s { rows = s.rows ++ row ∷ [] }

-- the extents once a run of pages has another holder
abbrev pub moved : Extents → ℕ → ℕ → Serial → Extents
moved s first count holder = record s { holders = move_pages first count holder s.holders }

-- derive

-- the row of an extent that spans a range of its parent's span
abbrev pub child_row : Serial → ℕ → ℕ → Access → ExtentRow → ExtentRow
child_row child offset count access parent = record {
  serial = child;
  parent = parent.serial;
  first = record { 0 = parent.first.0 + offset };
  count = count;
  access = access;
  parcel = false;
}

-- why the range can't be derived: it passes the span's end, or the access is more than the parent's
-- or a page isn't held by the parent
abbrev pub row_derive_refusal :
    Extents → ℕ → ℕ → ℕ → Option ExtentRow → Option Errno
row_derive_refusal s offset count access None = None
row_derive_refusal s offset count access (Some parent) =
    if nat_lt parent.count (offset + count) then Some ArgSize
    else if access_fits access parent.access.0
    && holds_all s.holders parent.serial.0 (parent.first.0 + offset) count
    then None
    else Some Denied

-- why a range of the extent with this serial can't be derived
abbrev pub derive_refusal : Extents → ℕ → ℕ → ℕ → ℕ → Option Errno
derive_refusal s parent offset count access =
    row_derive_refusal s offset count access (row_of s parent)

-- the extents with the derived child, which holds its span
abbrev pub row_derived :
    Extents → Serial → ℕ → ℕ → Access → Option ExtentRow → Extents
row_derived s child offset count access None = s
row_derived s child offset count access (Some parent) =
    moved
    (with_row s (child_row child offset count access parent))
    (parent.first.0 + offset) count child

-- the extents with a child derived from the extent with this serial
abbrev pub derived : Extents → Serial → ℕ → ℕ → ℕ → Access → Extents
derived s child parent offset count access =
    row_derived s child offset count access (row_of s parent)

-- donate

-- whether the one extent is related to the other so; siblings are two extents with the same parent
abbrev pub is_related : Relation → ExtentRow → ExtentRow → Bool
is_related ToChild from to = to.parent.0 == from.serial.0
is_related ToParent from to = from.parent.0 == to.serial.0
is_related ToSibling from to =
    not (from.serial.0 == to.serial.0) && (from.parent.0 == to.parent.0)

-- each page of the run is in the span
abbrev pub spans_all : ExtentRow → ℕ → ℕ → Bool
spans_all row first count =
    (count == 0) || (nat_le row.first.0 first && nat_le (first + count) (row.first.0 + row.count))

-- why the pages can't be donated: the two aren't so related, or a page is outside the receiver's
-- span, or isn't held by the giver
abbrev pub rows_donate_refusal :
    Extents → Relation → ℕ → ℕ → Option ExtentRow → Option ExtentRow → Option Errno
rows_donate_refusal s relation offset count None to = None
rows_donate_refusal s relation offset count (Some from) None = None
rows_donate_refusal s relation offset count (Some from) (Some to) =
    if not (is_related relation from to) then Some ArgInval
    else if not (spans_all to (from.first.0 + offset) count) then Some AddrInval
    else if holds_all s.holders from.serial.0 (from.first.0 + offset) count then None
    else Some Denied

-- why pages can't be donated from the extent with the one serial to that with the other
abbrev pub donate_refusal : Extents → Relation → ℕ → ℕ → ℕ → ℕ → Option Errno
donate_refusal s relation from to offset count =
    rows_donate_refusal s relation offset count (row_of s from) (row_of s to)

-- the extents once pages from the giver's span are the receiver's
abbrev pub row_donated : Extents → Serial → ℕ → ℕ → Option ExtentRow → Extents
row_donated s to offset count None = s
row_donated s to offset count (Some from) = moved s (from.first.0 + offset) count to

-- the extents once pages from the span of the extent with this serial are the receiver's
abbrev pub donated : Extents → ℕ → Serial → ℕ → ℕ → Extents
donated s from to offset count = row_donated s to offset count (row_of s from)

-- extents without pages

-- the span lies in the parent's
pub record IsSpanIn (span : Span) (parent : ExtentRow) : Type 0 where
  pub first : parent.first.0 ≤ span.first.0
  pub end : span.first.0 + span.count ≤ parent.first.0 + parent.count

-- the row of an extent of this span
abbrev pub span_row : Serial → Serial → Span → ExtentRow
span_row serial parent span = record {
  serial = serial;
  parent = parent;
  first = span.first;
  count = span.count;
  access = span.access;
  parcel = false;
}

-- the row of a parcel's extent: it spans what its parent spans
abbrev pub parcel_row : Serial → ExtentRow → ExtentRow
parcel_row serial parent = record parent { serial = serial; parent = parent.serial; parcel = true }

-- the extents with that of a parcel, where its parent has a row
abbrev pub with_parcel : Extents → Serial → Option ExtentRow → Extents
with_parcel s serial None = s
with_parcel s serial (Some parent) = with_row s (parcel_row serial parent)

-- give back

-- the row's parent is this extent
abbrev pub is_child_of : ℕ → ExtentRow → Bool
is_child_of extent row = row.parent.0 == extent

-- an extent that ends can give back its pages: it has a parent, and is no extent's parent
pub record CanGiveBack (s : Extents) (extent : ℕ) : Type 0 where
  pub parent : IsSomeAnd (row_of s extent) (λ row. row.parent.0 ≢ 0)
  pub leaf : list_any (is_child_of extent) s.rows ≡ false

-- the run from its first page on
abbrev pub run_from : ℕ → List Serial → ℕ → PageNo × ℕ
run_from extent holders first =
    (record { 0 = first }, prefix_len (is_serial extent) (drop first holders))

-- the first run of an extent: its first page and those that follow it at once, as long as it holds
-- them
abbrev pub first_run : ℕ → List Serial → Option (PageNo × ℕ)
first_run extent holders =
    option_map (run_from extent holders) (position (is_serial extent) holders)

-- the extents once a run of an extent is its parent's
abbrev pub row_returned : Extents → PageNo × ℕ → Option ExtentRow → Extents
row_returned s run None = s
row_returned s run (Some row) = moved s run.0.0 run.1 row.parent

-- the extents once a run of the extent with this serial is its parent's
abbrev pub returned : Extents → ℕ → PageNo × ℕ → Extents
returned s extent run = row_returned s run (row_of s extent)

-- the row is that of another extent
abbrev pub is_other : ℕ → ExtentRow → Bool
is_other extent row = not (is_extent extent row)

-- the extents without the row of one
abbrev pub without_row : Extents → ℕ → Extents
without_row s extent = record s { rows = filter (is_other extent) s.rows }

-- what is so after give back: a run is the parent's, or the row is gone
abbrev pub after_give_back : Extents → ℕ → Option (PageNo × ℕ) → Extents
after_give_back s extent None = without_row s extent
after_give_back s extent (Some run) = returned s extent run
