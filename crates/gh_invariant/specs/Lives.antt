-- Which objects live, and what a row needs of those that live. An object lives from its creation to
-- its reclaim, doomed or not.
use Rattle.std.specs.Prelude.{◌==◌, ◌&&◌, ◌||◌, ◌+◌, not, ℕ, length, Bool, true, false, List, [], ◌∷◌, Option, Some, None, find, is_some, count_by, bit_and, nat_le, nat_lt, if◌then◌else◌}
use Rattle.std.specs.List.{list_all, list_any}
use Rattle.gh_base.specs.Kind.{kind_number, kind_rights}
use Rattle.gh_base.specs.declared.kind.Kind.{Kind}
use Rattle.gh_base.specs.declared.kind.Kind.TheVariants as kind
use Rattle.gh_base.specs.declared.limits.TheConstants.{MESSAGE_BYTES, PARTITION_UNITS, QUEUE_DEPTH}
use Rattle.gh_model.specs.Boot.{access_fits, is_of_kind, overlaps}
use Rattle.gh_model.specs.Decisions.{is_init_stage}
use Rattle.gh_model.specs.MemoryCalls.{is_within_span}
use Rattle.gh_model.specs.Rows.{is_object, is_partition, is_extent, is_cpu}
use Rattle.gh_model.specs.Units.{row_quota}
use Rattle.gh_model.specs.Word.{is_slot}
use Rattle.gh_model.specs.declared.rows.ObjectRow.{ObjectRow}
use Rattle.gh_model.specs.declared.rows.PartitionRow.{PartitionRow}
use Rattle.gh_model.specs.declared.rows.ExtentRow.{ExtentRow}
use Rattle.gh_model.specs.declared.rows.CapabilityRow.{CapabilityRow}
use Rattle.gh_model.specs.declared.rows.SetAtRow.{SetAtRow}
use Rattle.gh_model.specs.declared.rows.MappingRow.{MappingRow}
use Rattle.gh_model.specs.declared.rows.CpuRow.{CpuRow}
use Rattle.gh_model.specs.declared.rows.LinkRow.{LinkRow}
use Rattle.gh_model.specs.declared.rows.QueueRow.{QueueRow}

-- an object of this serial lives
abbrev pub lives : List ObjectRow → ℕ → Bool
lives objects serial = is_some (find (is_object serial) objects)

-- an object of this serial and kind lives
abbrev pub lives_as : List ObjectRow → ℕ → Kind → Bool
lives_as objects serial k = is_of_kind k (find (is_object serial) objects)

-- how many objects of a kind live
abbrev pub kind_total : List ObjectRow → Kind → ℕ
kind_total objects k = count_by (λ (row : ObjectRow). kind_number row.kind == kind_number k) objects

-- the object lives in a partition that lives
abbrev pub is_housed : List ObjectRow → ObjectRow → Bool
is_housed objects row = lives_as objects row.partition.0 kind.Partition

-- the capability has no right but those of its kind
abbrev pub has_kind_rights : CapabilityRow → Bool
has_kind_rights row = bit_and row.rights.0 (kind_rights row.kind) == row.rights.0

-- the slot is one of a capability space that lives, its rights are within those of its kind, and
-- its object was made; where the capability is valid, the object lives and is of its kind
abbrev pub slot_fits : ℕ → List ObjectRow → CapabilityRow → Bool
slot_fits next_serial objects row =
    lives_as objects row.cspace.0 kind.Cspace && is_slot row.slot && has_kind_rights row
    && nat_lt 0 row.serial.0 && nat_lt row.serial.0 next_serial
    && (not row.valid || lives_as objects row.serial.0 row.kind)

-- the setting is of a slot of a capability space that lives, by an entry up to the last
abbrev pub setting_fits : ℕ → List ObjectRow → SetAtRow → Bool
setting_fits last objects row =
    lives_as objects row.cspace.0 kind.Cspace && is_slot row.slot
    && nat_lt 0 row.number && nat_le row.number last

-- the span lies within another, and its access within that one's
abbrev pub is_part_of : ExtentRow → Option ExtentRow → Bool
is_part_of row None = false
is_part_of row (Some outer) =
    is_within_span outer row.first.0 row.count && access_fits row.access.0 outer.access.0

-- an extent without a parent has all pages of the machine, with access 7
abbrev pub is_root : ℕ → ExtentRow → Bool
is_root pages row =
    (row.parent.0 == 0) && (row.first.0 == 0) && (row.count == pages) && (row.access.0 == 7)

-- the span has a page, ends within the machine, and is the root's or a part of its parent's
abbrev pub span_fits : ℕ → List ExtentRow → ExtentRow → Bool
span_fits pages extents row =
    nat_lt 0 row.count && nat_le (row.first.0 + row.count) pages
    && (is_root pages row || is_part_of row (find (is_extent row.parent.0) extents))

-- the extent has no parent
abbrev pub is_parentless : ExtentRow → Bool
is_parentless row = row.parent.0 == 0

-- the page lies in the span
abbrev pub spans_page : ℕ → Option ExtentRow → Bool
spans_page page None = false
spans_page page (Some row) = is_within_span row page 1

-- the pages of the row lie in the span, and its access within the extent's
abbrev pub spans_row : MappingRow → Option ExtentRow → Bool
spans_row row None = false
spans_row row (Some extent) =
    nat_le (row.offset + row.count) extent.count && access_fits row.access.0 extent.access.0

-- the mapping row has a page, an address space that lives, and pages of its extent's span
abbrev pub mapping_stands : List ObjectRow → List ExtentRow → MappingRow → Bool
mapping_stands objects extents row =
    lives_as objects row.space.0 kind.Space && lives_as objects row.extent.0 kind.Extent
    && nat_lt 0 row.count && nat_le (row.base + row.count) 4096
    && spans_row row (find (is_extent row.extent.0) extents)

-- the row has a page in common with one of these
abbrev pub meets : MappingRow → List MappingRow → Bool
meets row rows = list_any (overlaps row.space.0 row.base row.count) rows

-- no two rows of one address space have a page in common
abbrev pub are_apart : List MappingRow → Bool
are_apart [] = true
are_apart (row ∷ rows) = not (meets row rows) && are_apart rows

-- the object lives in the partition
abbrev pub lives_under : ℕ → Option ObjectRow → Bool
lives_under partition None = false
lives_under partition (Some row) = row.partition.0 == partition

-- the one that gave a partition its quota, or for a quota of the boot the partition itself
abbrev pub giver : PartitionRow → ℕ
giver row = if row.parent.0 == 0 then row.serial.0 else row.parent.0

-- a quota is at most 128 units, and a partition lives in the one that gave it its quota
abbrev pub quota_fits : List ObjectRow → PartitionRow → Bool
quota_fits objects row =
    nat_le row.quota PARTITION_UNITS
    && lives_under (giver row) (find (is_object row.serial.0) objects)

-- an object took a unit at least. One that isn't configured yet took just one and has nothing: a
-- partition no quota, an extent no span
abbrev pub is_new : Kind → ℕ → Option PartitionRow → Option ExtentRow → Bool
is_new kind.Partition cost partition extent = row_quota partition == 0
is_new kind.Extent cost partition extent = not (is_some extent)
is_new kind.Queue cost partition extent = cost == 1
is_new _ cost partition extent = true

abbrev pub cost_fits : List PartitionRow → List ExtentRow → ObjectRow → Bool
cost_fits partitions extents row =
    nat_lt 0 row.cost
    && (not (is_init_stage row.stage)
    || is_new row.kind row.cost (find (is_partition row.serial.0) partitions)
    (find (is_extent row.serial.0) extents))

-- a CPU that hasn't exited has a capability space and an address space that live
abbrev pub cpu_fits : List ObjectRow → CpuRow → Bool
cpu_fits objects row =
    row.exited
    || (lives_as objects row.cspace.0 kind.Cspace && lives_as objects row.space.0 kind.Space)

-- a linked VM has its CPU, whose address space lives, and an extent and two queues that live
abbrev pub space_lives : List ObjectRow → Option CpuRow → Bool
space_lives objects None = false
space_lives objects (Some row) = lives_as objects row.space.0 kind.Space

abbrev pub link_stands : List ObjectRow → List CpuRow → LinkRow → Bool
link_stands objects cpus row =
    space_lives objects (find (is_cpu row.vm.0) cpus) && lives_as objects row.extent.0 kind.Extent
    && lives_as objects row.request.0 kind.Queue && lives_as objects row.reply.0 kind.Queue

-- the message is no longer than a queue's size
abbrev pub is_short : ℕ → List ℕ → Bool
is_short size message = nat_le (length message) size

-- a queue has a depth of at most 64 and a size of at most 1,024 bytes, and no more messages than
-- its depth, each short enough
abbrev pub queue_fits : QueueRow → Bool
queue_fits row =
    nat_le row.depth QUEUE_DEPTH && nat_le row.size MESSAGE_BYTES
    && nat_le (length row.messages) row.depth && list_all (is_short row.size) row.messages
