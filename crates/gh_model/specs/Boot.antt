-- What a boot file makes: the changes that each line makes, the state after its lines, and what
-- each line must meet in the state before it.
use Rattle.std.specs.Prelude.{◌==◌, ◌&&◌, ◌||◌, ◌+◌, ◌*◌, ◌/◌, ℕ, Bool, true, false, not, List, [], ◌∷◌, length, take, drop, Option, Some, None, find, fold, count_by, bit_and, nat_lt, nat_le, is_some}
use Rattle.std.specs.List.{list_any, list_all}
use Rattle.std.specs.Option.{option_map_or}
use Rattle.gh_base.specs.Kind.{kind_number, kind_rights}
use Rattle.gh_base.specs.declared.access.Access.{Access}
use Rattle.gh_base.specs.declared.ids.Serial.{Serial}
use Rattle.gh_base.specs.declared.limits.TheConstants.{CSPACES, FRAGMENT_BYTES, MACHINE_PAGES, MESSAGE_BYTES, PARTITIONS, PARTITION_UNITS, QUEUE_DEPTH, VMS}
use Rattle.gh_base.specs.declared.kind.Kind.{Kind}
use Rattle.gh_base.specs.declared.kind.Kind.TheVariants as kind
use Rattle.gh_model.specs.declared.change.Change.{Change}
use Rattle.gh_model.specs.declared.change.Change.TheVariants.{AddCpu, AddExtent, AddLink, AddObject, AddPartition, AddRoot, FillSlot, MovePages, PutMapping, SetPages, SetRoom}
use Rattle.gh_model.specs.declared.boot_line.BootLine.{BootLine}
use Rattle.gh_model.specs.declared.boot_line.BootLine.TheVariants.{Pages, Partition, Cspace, Addrspace, Doorbell, RootExtent, Extent, Msgqueue, Map, Cap, Vm, Rm, Link}
use Rattle.gh_model.specs.declared.rows.ObjectRow.{ObjectRow}
use Rattle.gh_model.specs.declared.rows.ExtentRow.{ExtentRow}
use Rattle.gh_model.specs.declared.rows.CapabilityRow.{CapabilityRow}
use Rattle.gh_model.specs.declared.rows.MappingRow.{MappingRow}
use Rattle.gh_model.specs.declared.rows.QueueRow.{QueueRow}
use Rattle.gh_model.specs.declared.rows.CpuRow.{CpuRow}
use Rattle.gh_model.specs.declared.rows.LinkRow.{LinkRow}
use Rattle.gh_model.specs.declared.state.State.{State}
pub use Rattle.gh_model.specs.Changes.{boot_object, move_pages, new_bell, serial_of}
use Rattle.gh_model.specs.Changes.{changed_all}
use Rattle.gh_model.specs.Rows.{object_row, is_object, is_extent, is_cpu, cpu_row, fills}
use Rattle.gh_model.specs.Units.{free_units}

-- nothing is there before the first line
abbrev pub empty_state : State
empty_state = record {
  objects = [];
  partitions = [];
  extents = [];
  holders = [];
  caps = [];
  set_at = [];
  mappings = [];
  bells = [];
  queues = [];
  parcels = [];
  cpus = [];
  links = [];
  entries = 0;
  next_serial = 1;
  next_handle = 1;
  rings = 0;
  taken = [];
}

-- what each line reads of the state

-- the first machine page of an extent's span
abbrev pub span_first : List ExtentRow → ℕ → ℕ
span_first extents extent =
    option_map_or (λ (row : ExtentRow). row.first.0) (find (is_extent extent) extents) 0

abbrev pub first_page : State → ℕ → ℕ
first_page s extent = span_first s.extents extent

-- the units of a queue: one, and its messages' room in pages, rounded up
abbrev pub queue_cost : ℕ → ℕ → ℕ
queue_cost depth size = 1 + (depth * size + 4095) / 4096

-- the kind of an object; a partition where there is none
abbrev pub object_kind : List ObjectRow → ℕ → Kind
object_kind objects serial =
    option_map_or (λ (row : ObjectRow). row.kind) (find (is_object serial) objects) kind.Partition

abbrev pub kind_at : State → ℕ → Kind
kind_at s serial = object_kind s.objects serial

-- a CPU of a VM, and not the resource manager's
abbrev pub is_vm : CpuRow → Bool
is_vm row = nat_lt 0 row.cpu.0

-- VMs so far
abbrev pub cpu_vms : List CpuRow → ℕ
cpu_vms cpus = count_by is_vm cpus

abbrev pub vm_count : State → ℕ
vm_count s = cpu_vms s.cpus

-- the capability space of the resource manager
abbrev pub cpu_cspace : List CpuRow → ℕ → ℕ
cpu_cspace cpus cpu = option_map_or (λ (row : CpuRow). row.cspace.0) (find (is_cpu cpu) cpus) 0

abbrev pub manager_cspace : State → ℕ
manager_cspace s = cpu_cspace s.cpus 0

-- what each line makes: the changes of the state, in order

-- the root extent spans all pages
abbrev pub root_span : State → ExtentRow
root_span s = record {
  serial = serial_of s.next_serial;
  parent = serial_of 0;
  first = record { 0 = 0 };
  count = length s.holders;
  access = record { 0 = 7 };
  parcel = false;
}

-- another extent spans pages of its parent's span
abbrev pub child_span : State → ℕ → ℕ → ℕ → ℕ → ExtentRow
child_span s parent offset count access = record {
  serial = serial_of s.next_serial;
  parent = serial_of parent;
  first = record { 0 = first_page s parent + offset };
  count = count;
  access = record { 0 = access };
  parcel = false;
}

-- a valid capability of an object's kind
abbrev pub boot_capability : State → ℕ → ℕ → ℕ → ℕ → Bool → CapabilityRow
boot_capability s cspace slot object rights master = record {
  cspace = serial_of cspace;
  slot = slot;
  serial = serial_of object;
  kind = kind_at s object;
  rights = record { 0 = rights };
  master = master;
  valid = true;
}

-- a CPU that hasn't exited
abbrev pub boot_cpu : ℕ → Serial → Serial → CpuRow
boot_cpu cpu cspace space =
    record { cpu = record { 0 = cpu }; cspace = cspace; space = space; exited = false }

-- a row of the map call
abbrev pub boot_mapping : Serial → Serial → ℕ → ℕ → ℕ → Access → MappingRow
boot_mapping space extent base offset count access = record {
  space = space;
  extent = extent;
  base = base;
  offset = offset;
  count = count;
  access = access;
  handle = 0;
}

-- an extent that isn't the root gets its span, and the pages that its parent hands over. A queue
-- has its room at once. The resource manager's slot 1 names a partition. A link gives the manager
-- the request queue to receive from, and the reply queue to send to
abbrev pub changes_of_line : State → BootLine → List Change
changes_of_line s (Pages count) = SetPages count ∷ []
changes_of_line s (Partition quota) = AddPartition quota ∷ []
changes_of_line s (Cspace partition) = AddObject (boot_object s kind.Cspace partition.0 4) ∷ []
changes_of_line s (Addrspace partition) = AddObject (boot_object s kind.Space partition.0 4) ∷ []
changes_of_line s (Doorbell partition) = AddObject (boot_object s kind.Bell partition.0 1) ∷ []
changes_of_line s (RootExtent partition) =
    AddObject (boot_object s kind.Extent partition.0 1) ∷ AddRoot (root_span s) ∷ []
changes_of_line s (Extent partition parent offset count access held_offset held_count) =
    AddObject (boot_object s kind.Extent partition.0 1)
    ∷ AddExtent (child_span s parent.0 offset count access.0)
    ∷ MovePages (first_page s parent.0 + offset + held_offset) held_count (serial_of s.next_serial)
    ∷ []
changes_of_line s (Msgqueue partition depth size) =
    AddObject (boot_object s kind.Queue partition.0 (queue_cost depth size))
    ∷ SetRoom (serial_of s.next_serial) depth size ∷ []
changes_of_line s (Map space extent base offset count access) =
    PutMapping (boot_mapping space extent base offset count access) ∷ []
changes_of_line s (Cap cspace slot object rights master) =
    FillSlot (boot_capability s cspace.0 slot object.0 rights.0 master) ∷ []
changes_of_line s (Vm cspace space) = AddCpu (boot_cpu (vm_count s + 1) cspace space) ∷ []
changes_of_line s (Rm cspace space partition) =
    AddCpu (boot_cpu 0 cspace space)
    ∷ FillSlot (boot_capability s cspace.0 1 partition.0 128 false) ∷ []
changes_of_line s (Link vm extent request reply) =
    FillSlot (boot_capability s (manager_cspace s) (2 * vm.0) request.0 2 false)
    ∷ FillSlot (boot_capability s (manager_cspace s) (2 * vm.0 + 1) reply.0 1 false)
    ∷ AddLink (record { vm = vm; extent = extent; request = request; reply = reply }) ∷ []

-- the line makes an object
abbrev pub makes_object : BootLine → Bool
makes_object (Partition quota) = true
makes_object (Cspace partition) = true
makes_object (Addrspace partition) = true
makes_object (Doorbell partition) = true
makes_object (RootExtent partition) = true
makes_object (Extent partition parent offset count access held_offset held_count) = true
makes_object (Msgqueue partition depth size) = true
makes_object _ = false

-- the object is an extent
abbrev pub makes_extent : BootLine → Bool
makes_extent (RootExtent partition) = true
makes_extent (Extent partition parent offset count access held_offset held_count) = true
makes_extent _ = false

-- the line attaches a CPU or links a VM
abbrev pub makes_cpu : BootLine → Bool
makes_cpu (Vm cspace space) = true
makes_cpu (Rm cspace space partition) = true
makes_cpu (Link vm extent request reply) = true
makes_cpu _ = false

-- the state after one more line: its changes are made, in order
abbrev pub after_line : State → BootLine → State
after_line s line = changed_all s (changes_of_line s line)

-- the line of the resource manager
abbrev pub is_manager_line : BootLine → Bool
is_manager_line (Rm cspace space partition) = true
is_manager_line _ = false

abbrev pub has_manager : List BootLine → Bool
has_manager lines = list_any is_manager_line lines

-- the state that a boot file makes
abbrev pub boot_state : List BootLine → State
boot_state lines = fold after_line empty_state lines

-- what each line must meet

-- an object of this kind is there
abbrev pub is_of_kind : Kind → Option ObjectRow → Bool
is_of_kind k None = false
is_of_kind k (Some row) = kind_number row.kind == kind_number k

abbrev pub is_kind : State → ℕ → Kind → Bool
is_kind s serial k = is_of_kind k (object_row s serial)

-- the partition has the units
abbrev pub has_units : State → ℕ → ℕ → Bool
has_units s partition cost =
    is_kind s partition kind.Partition && nat_le cost (free_units s partition)

-- how many objects of a kind are there
abbrev pub kind_count : State → Kind → ℕ
kind_count s k = count_by (λ (row : ObjectRow). kind_number row.kind == kind_number k) s.objects

-- an access of pages: one of the numbers, and not none
abbrev pub is_access : ℕ → Bool
is_access access = not (access == 0) && not (access == 3) && nat_le access 7

abbrev pub access_fits : ℕ → ℕ → Bool
access_fits access wider = bit_and access wider == access

-- all these pages are held by the extent
abbrev pub all_held : State → ℕ → ℕ → ℕ → Bool
all_held s extent first count =
    list_all (λ (holder : Serial). holder.0 == extent) (take count (drop first s.holders))

abbrev pub extent_fits : State → ℕ → ℕ → ℕ → ℕ → ℕ → ℕ → Option ExtentRow → Bool
extent_fits s parent offset count access held_offset held_count None = false
extent_fits s parent offset count access held_offset held_count (Some row) =
    nat_le 1 count && nat_le (offset + count) row.count && is_access access
    && access_fits access row.access.0
    && all_held s parent (row.first.0 + offset + held_offset) held_count

-- two runs of pages of one address space have a page in common
abbrev pub overlaps : ℕ → ℕ → ℕ → MappingRow → Bool
overlaps space base count row =
    (row.space.0 == space) && nat_lt base (row.base + row.count) && nat_lt row.base (base + count)

abbrev pub is_row_of : ℕ → MappingRow → Bool
is_row_of space row = row.space.0 == space

abbrev pub mapping_fits : State → ℕ → ℕ → ℕ → ℕ → ℕ → Option ExtentRow → Bool
mapping_fits s space base offset count access None = false
mapping_fits s space base offset count access (Some row) =
    nat_le 1 count && is_access access && nat_le (base + count) 4096
    && nat_le (offset + count) row.count
    && access_fits access row.access.0 && not (list_any (overlaps space base count) s.mappings)
    && nat_lt (count_by (is_row_of space) s.mappings) 64

-- the slot has a number and is free
abbrev pub is_free_slot : State → ℕ → ℕ → Bool
is_free_slot s cspace slot =
    nat_le 1 slot && nat_le slot 127 && not (list_any (fills cspace slot) s.caps)

abbrev pub is_master_of : ℕ → CapabilityRow → Bool
is_master_of serial row = row.master && (row.serial.0 == serial)

abbrev pub rights_fit_kind : ℕ → Option ObjectRow → Bool
rights_fit_kind rights None = false
rights_fit_kind rights (Some row) = bit_and rights (kind_rights row.kind) == rights

-- a CPU is attached to it already
abbrev pub is_attachment : ℕ → CpuRow → Bool
is_attachment serial row = (row.cspace.0 == serial) || (row.space.0 == serial)

abbrev pub may_attach : State → ℕ → ℕ → Bool
may_attach s cspace space =
    is_kind s cspace kind.Cspace && is_kind s space kind.Space
    && not (list_any (is_attachment cspace) s.cpus) && not (list_any (is_attachment space) s.cpus)

-- the queue is in a link already
abbrev pub is_linked_queue : ℕ → LinkRow → Bool
is_linked_queue queue row = (row.request.0 == queue) || (row.reply.0 == queue)

abbrev pub is_small_queue : ℕ → QueueRow → Bool
is_small_queue queue row = (row.serial.0 == queue) && nat_le row.size FRAGMENT_BYTES

-- the VM is there beside the resource manager, and in no link yet
abbrev pub vm_may_link : State → ℕ → Bool
vm_may_link s vm =
    is_some (cpu_row s 0) && nat_lt 0 vm && is_some (cpu_row s vm)
    && not (list_any (λ (row : LinkRow). row.vm.0 == vm) s.links)

-- the queues are two, neither is in a link yet, and a request's fragment fits the one for requests
abbrev pub queues_may_link : State → ℕ → ℕ → Bool
queues_may_link s request reply =
    is_kind s request kind.Queue && is_kind s reply kind.Queue && not (request == reply)
    && not (list_any (is_linked_queue request) s.links)
    && not (list_any (is_linked_queue reply) s.links)
    && list_any (is_small_queue request) s.queues

-- and the resource manager has two free slots for them
abbrev pub link_fits : State → ℕ → ℕ → ℕ → ℕ → Bool
link_fits s vm extent request reply =
    vm_may_link s vm && is_kind s extent kind.Extent && queues_may_link s request reply
    && is_free_slot s (manager_cspace s) (2 * vm) && is_free_slot s (manager_cspace s) (2 * vm + 1)

-- the line may come in this state, behind the line of pages
abbrev pub line_fits : State → BootLine → Bool
line_fits s (Pages count) = false
line_fits s (Partition quota) =
    nat_le 1 quota && nat_le quota PARTITION_UNITS
    && nat_lt (kind_count s kind.Partition) PARTITIONS
line_fits s (Cspace partition) =
    has_units s partition.0 4 && nat_lt (kind_count s kind.Cspace) CSPACES
line_fits s (Addrspace partition) = has_units s partition.0 4
line_fits s (Doorbell partition) = has_units s partition.0 1
line_fits s (RootExtent partition) = has_units s partition.0 1 && (length s.extents == 0)
line_fits s (Extent partition parent offset count access held_offset held_count) =
    has_units s partition.0 1 && nat_le (held_offset + held_count) count
    && extent_fits s parent.0 offset count access.0 held_offset held_count
    (find (is_extent parent.0) s.extents)
line_fits s (Msgqueue partition depth size) =
    nat_le 1 depth && nat_le depth QUEUE_DEPTH && nat_le 1 size && nat_le size MESSAGE_BYTES
    && has_units s partition.0 (queue_cost depth size)
line_fits s (Map space extent base offset count access) =
    is_kind s space.0 kind.Space
    && mapping_fits s space.0 base offset count access.0 (find (is_extent extent.0) s.extents)
line_fits s (Cap cspace slot object rights master) =
    is_kind s cspace.0 kind.Cspace && is_free_slot s cspace.0 slot
    && rights_fit_kind rights.0 (object_row s object.0)
    && not (master && list_any (is_master_of object.0) s.caps)
line_fits s (Vm cspace space) =
    may_attach s cspace.0 space.0 && nat_lt (vm_count s) VMS
line_fits s (Rm cspace space partition) =
    not (is_some (cpu_row s 0)) && may_attach s cspace.0 space.0 && is_free_slot s cspace.0 1
    && is_kind s partition.0 kind.Partition
line_fits s (Link vm extent request reply) = link_fits s vm.0 extent.0 request.0 reply.0

-- each line fits behind those before it
abbrev pub lines_fit : State → List BootLine → Bool
lines_fit s [] = true
lines_fit s (line ∷ lines) = line_fits s line && lines_fit (after_line s line) lines

-- at the end there is a root extent and a VM
abbrev pub is_complete : State → Bool
is_complete s = nat_lt 0 (length s.extents) && nat_lt 0 (vm_count s)

-- the lines are those of a boot file: the pages first, 1 to 1,024, then lines that fit, and
-- complete at the end
abbrev pub boot_fits : List BootLine → Bool
boot_fits [] = false
boot_fits (Pages count ∷ lines) =
    nat_le 1 count && nat_le count MACHINE_PAGES
    && lines_fit (after_line empty_state (Pages count)) lines
    && is_complete (fold after_line (after_line empty_state (Pages count)) lines)
boot_fits (_ ∷ lines) = false
