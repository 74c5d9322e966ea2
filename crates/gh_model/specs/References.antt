-- What refers to an object. An object without references is doomed.
use Rattle.std.specs.Prelude.{◌==◌, ◌&&◌, ◌||◌, ◌+◌, not, ℕ, Bool}
use Rattle.std.specs.Prelude.{true, false, List, Option, Some, None, count_by, find}
use Rattle.gh_model.specs.declared.rows.ObjectRow.{ObjectRow}
use Rattle.gh_model.specs.declared.rows.PartitionRow.{PartitionRow}
use Rattle.gh_model.specs.declared.rows.ExtentRow.{ExtentRow}
use Rattle.gh_model.specs.declared.rows.CapabilityRow.{CapabilityRow}
use Rattle.gh_model.specs.declared.rows.MappingRow.{MappingRow}
use Rattle.gh_model.specs.declared.rows.CpuRow.{CpuRow}
use Rattle.gh_model.specs.declared.rows.LinkRow.{LinkRow}
use Rattle.gh_model.specs.declared.rows.Parcel.{Parcel}
use Rattle.gh_model.specs.declared.rows.ParcelKind.{ParcelKind}
use Rattle.gh_model.specs.declared.rows.ParcelKind.TheVariants.{Lend, Share}
use Rattle.gh_model.specs.declared.state.State.{State}
use Rattle.gh_model.specs.Rows.{is_cpu}

-- a valid capability of the object
abbrev pub is_capability_of : ℕ → CapabilityRow → Bool
is_capability_of serial row = row.valid && (row.serial.0 == serial)

-- a mapping row that names it as its space or its extent
abbrev pub is_mapping_of : ℕ → MappingRow → Bool
is_mapping_of serial row = (row.space.0 == serial) || (row.extent.0 == serial)

-- a derived child of it
abbrev pub is_child_of : ℕ → ExtentRow → Bool
is_child_of serial row = row.parent.0 == serial

-- an object that lives in it, itself not counted
abbrev pub is_inhabitant_of : ℕ → ObjectRow → Bool
is_inhabitant_of serial row = (row.partition.0 == serial) && not (row.serial.0 == serial)

-- a filled slot in it
abbrev pub is_slot_of : ℕ → CapabilityRow → Bool
is_slot_of serial row = row.cspace.0 == serial

-- a CPU that is attached to it and hasn't exited
abbrev pub is_attached_to : ℕ → CpuRow → Bool
is_attached_to serial row = ((row.cspace.0 == serial) || (row.space.0 == serial)) && not row.exited

-- the address space of a linked VM
abbrev pub is_space_of : ℕ → Option CpuRow → Bool
is_space_of serial None = false
is_space_of serial (Some row) = row.space.0 == serial

-- a link that uses it: the VM's address space, the extent or a queue
abbrev pub uses_link : List CpuRow → ℕ → LinkRow → Bool
uses_link cpus serial row =
    is_space_of serial (find (is_cpu row.vm.0) cpus) || (row.extent.0 == serial)
    || (row.request.0 == serial) || (row.reply.0 == serial)

-- the link refers to the object
abbrev pub is_link_of : State → ℕ → LinkRow → Bool
is_link_of s serial row = uses_link s.cpus serial row

-- a share of its pages
abbrev pub is_share : ParcelKind → Bool
is_share Lend = false
is_share Share = true

-- the parcel is a share of the extent
abbrev pub is_share_of : ℕ → Parcel → Bool
is_share_of serial parcel = is_share parcel.kind && (parcel.extent.0 == serial)

-- a partition of the boot, or the root extent
abbrev pub is_boot_partition : ℕ → PartitionRow → Bool
is_boot_partition serial row = (row.serial.0 == serial) && (row.parent.0 == 0)

-- the row is that of the extent, which has no parent
abbrev pub is_root_extent : ℕ → ExtentRow → Bool
is_root_extent serial row = (row.serial.0 == serial) && (row.parent.0 == 0)

-- the references of an object, added up
abbrev pub references : State → ℕ → ℕ
references s serial =
    count_by (is_capability_of serial) s.caps + count_by (is_mapping_of serial) s.mappings
    + count_by (is_child_of serial) s.extents + count_by (is_inhabitant_of serial) s.objects
    + count_by (is_slot_of serial) s.caps + count_by (is_attached_to serial) s.cpus
    + count_by (is_link_of s serial) s.links + count_by (is_share_of serial) s.parcels
    + count_by (is_boot_partition serial) s.partitions + count_by (is_root_extent serial) s.extents

-- nothing refers to it
abbrev pub is_doomed : State → ℕ → Bool
is_doomed s serial = references s serial == 0
