-- The changes of the state that boot lines, acts and the history's other entries are made of: what
-- each makes of the rows. All else stays.
use Rattle.std.specs.Prelude.{◌==◌, ◌&&◌, ◌+◌, not, ℕ, Bool, true, false, List, [], ◌∷◌, ◌++◌, length, take, drop, replicate, Option, Some, None, fold, find, position, filter, map, nat_le, if◌then◌else◌}
use Rattle.std.specs.Option.{option_map_or}
use Rattle.gh_base.specs.declared.ids.Serial.{Serial}
use Rattle.gh_base.specs.declared.kind.Kind.{Kind}
use Rattle.gh_base.specs.declared.kind.Kind.TheVariants as kind
use Rattle.gh_base.specs.declared.kind.Stage.{Stage}
use Rattle.gh_base.specs.declared.kind.Stage.TheVariants.{Active}
use Rattle.gh_base.specs.declared.limits.TheConstants.{NEW_BELL_ACK, NEW_BELL_ENABLE, NEW_BELL_FLAGS}
use Rattle.gh_model.specs.declared.change.Change.{Change}
use Rattle.gh_model.specs.declared.change.Change.TheVariants.{PutCapability, DropCapability, RevokeCapability, AddObject, SetStage, Retire, Reclaim, GiveQuota, AddExtent, MovePages, PutMapping, DropMapping, SetBell, ConfigureQueue, PutMessage, DropMessage, EmptyQueue, Exit, Ring, SetPages, AddPartition, AddRoot, SetRoom, FillSlot, AddCpu, AddLink}
use Rattle.gh_model.specs.declared.rows.ObjectRow.{ObjectRow}
use Rattle.gh_model.specs.declared.rows.PartitionRow.{PartitionRow}
use Rattle.gh_model.specs.declared.rows.ExtentRow.{ExtentRow}
use Rattle.gh_model.specs.declared.rows.CapabilityRow.{CapabilityRow}
use Rattle.gh_model.specs.declared.rows.SetAtRow.{SetAtRow}
use Rattle.gh_model.specs.declared.rows.MappingRow.{MappingRow}
use Rattle.gh_model.specs.declared.rows.BellRow.{BellRow}
use Rattle.gh_model.specs.declared.rows.QueueRow.{QueueRow}
use Rattle.gh_model.specs.declared.rows.CpuRow.{CpuRow}
use Rattle.gh_model.specs.declared.rows.LinkRow.{LinkRow}
use Rattle.gh_model.specs.declared.state.State.{State}
use Rattle.gh_model.specs.References.{is_mapping_of}
use Rattle.gh_model.specs.Rows.{change_row, is_object, is_partition, is_extent, is_bell, is_queue, is_cpu, fills, tells_setting}

abbrev pub serial_of : ℕ → Serial
serial_of n = record { 0 = n }

-- the rows that don't pass the test
abbrev pub without : {R : Type 0} → (R → Bool) → List R → List R
without test rows = filter (λ row. not (test row)) rows

-- slots

-- a slot's setting becomes the number of an entry
abbrev pub with_number : ℕ → SetAtRow → SetAtRow
with_number number row = record row { number = number }

abbrev pub put_setting : List SetAtRow → Serial → ℕ → ℕ → Option ℕ → List SetAtRow
put_setting rows cspace slot number None =
    rows ++ record { cspace = cspace; slot = slot; number = number } ∷ []
put_setting rows cspace slot number (Some at) =
    change_row (tells_setting cspace.0 slot) (with_number number) rows

abbrev pub with_setting : List SetAtRow → Serial → ℕ → ℕ → List SetAtRow
with_setting rows cspace slot number =
    put_setting rows cspace slot number (position (tells_setting cspace.0 slot) rows)

-- a slot is filled by the next entry
abbrev pub put_capability : CapabilityRow → State → State
put_capability row s = record s {
  caps = s.caps ++ row ∷ [];
  set_at = with_setting s.set_at row.cspace row.slot (s.entries + 1);
}

-- a slot is emptied by the next entry
abbrev pub drop_capability : Serial → ℕ → State → State
drop_capability cspace slot s = record s {
  caps = without (fills cspace.0 slot) s.caps;
  set_at = with_setting s.set_at cspace slot (s.entries + 1);
}

-- a slot's capability is revoked by the next entry
abbrev pub as_revoked : CapabilityRow → CapabilityRow
as_revoked row = record row { valid = false }

abbrev pub revoke_capability : Serial → ℕ → State → State
revoke_capability cspace slot s = record s {
  caps = change_row (fills cspace.0 slot) as_revoked s.caps;
  set_at = with_setting s.set_at cspace slot (s.entries + 1);
}

-- a slot is filled before the first entry, and so without a setting
abbrev pub fill_slot : CapabilityRow → State → State
fill_slot row s = record s { caps = s.caps ++ row ∷ [] }

-- objects

-- a partition begins without a quota, one that its partition may give
abbrev pub new_partitions : Kind → Serial → Serial → List PartitionRow
new_partitions kind.Partition serial parent =
    record { serial = serial; parent = parent; quota = 0 } ∷ []
new_partitions _ serial parent = []

-- a doorbell begins without flags, with all of them enabled and none acknowledged by itself
abbrev pub new_bell : Serial → BellRow
new_bell serial = record {
  serial = serial;
  flags = NEW_BELL_FLAGS;
  enable = NEW_BELL_ENABLE;
  ack = NEW_BELL_ACK;
}

abbrev pub new_bells : Kind → Serial → List BellRow
new_bells kind.Bell serial = new_bell serial ∷ []
new_bells _ serial = []

-- a queue begins without room
abbrev pub new_queues : Kind → Serial → List QueueRow
new_queues kind.Queue serial = record { serial = serial; depth = 0; size = 0; messages = [] } ∷ []
new_queues _ serial = []

-- an object is added, with its partition's, bell's or queue's row. An extent gets its span later
abbrev pub add_object : ObjectRow → State → State
add_object row s = record s {
  objects = s.objects ++ row ∷ [];
  partitions = s.partitions ++ new_partitions row.kind row.serial row.partition;
  bells = s.bells ++ new_bells row.kind row.serial;
  queues = s.queues ++ new_queues row.kind row.serial;
  next_serial = s.next_serial + 1;
}

-- an active object of the next serial
abbrev pub boot_object : State → Kind → ℕ → ℕ → ObjectRow
boot_object s k partition cost = record {
  serial = serial_of s.next_serial;
  kind = k;
  partition = serial_of partition;
  stage = Active;
  cost = cost;
  retired = None;
}

-- a boot partition lives in itself, and its quota came from no other
abbrev pub boot_partition : ℕ → ℕ → PartitionRow
boot_partition serial quota =
    record { serial = serial_of serial; parent = serial_of 0; quota = quota }

abbrev pub add_partition : ℕ → State → State
add_partition quota s = record s {
  objects = s.objects ++ boot_object s kind.Partition s.next_serial 1 ∷ [];
  partitions = s.partitions ++ boot_partition s.next_serial quota ∷ [];
  next_serial = s.next_serial + 1;
}

-- an object comes to another stage
abbrev pub with_stage : Stage → ObjectRow → ObjectRow
with_stage stage row = record row { stage = stage }

abbrev pub set_stage : Serial → Stage → State → State
set_stage object stage s =
    record s { objects = change_row (is_object object.0) (with_stage stage) s.objects }

-- an object's row gets the counters of its retirement
abbrev pub with_counters : List ℕ → ObjectRow → ObjectRow
with_counters seen row = record row { retired = Some seen }

abbrev pub retire_object : Serial → List ℕ → State → State
retire_object object seen s =
    record s { objects = change_row (is_object object.0) (with_counters seen) s.objects }

-- an extent's pages go to its parent
abbrev pub extent_parent : List ExtentRow → ℕ → Serial
extent_parent extents extent =
    option_map_or (λ (row : ExtentRow). row.parent) (find (is_extent extent) extents) (serial_of 0)

abbrev pub given_back : ℕ → Serial → Serial → Serial
given_back extent parent holder = if holder.0 == extent then parent else holder

-- a slot's capability, or its setting, is of the capability space
abbrev pub is_in_cspace : ℕ → CapabilityRow → Bool
is_in_cspace cspace row = row.cspace.0 == cspace

abbrev pub is_set_in : ℕ → SetAtRow → Bool
is_set_in cspace row = row.cspace.0 == cspace

-- all rows of an object go, but for the capabilities that name it
abbrev pub reclaim_object : Serial → State → State
reclaim_object object s = record s {
  objects = without (is_object object.0) s.objects;
  partitions = without (is_partition object.0) s.partitions;
  extents = without (is_extent object.0) s.extents;
  holders = map (given_back object.0 (extent_parent s.extents object.0)) s.holders;
  caps = without (is_in_cspace object.0) s.caps;
  set_at = without (is_set_in object.0) s.set_at;
  mappings = without (is_mapping_of object.0) s.mappings;
  bells = without (is_bell object.0) s.bells;
  queues = without (is_queue object.0) s.queues;
}

-- units: a partition gets its quota
abbrev pub with_quota : ℕ → PartitionRow → PartitionRow
with_quota quota row = record row { quota = quota }

abbrev pub give_quota : Serial → ℕ → State → State
give_quota partition quota s =
    record s { partitions = change_row (is_partition partition.0) (with_quota quota) s.partitions }

-- memory

abbrev pub add_extent : ExtentRow → State → State
add_extent row s = record s { extents = s.extents ++ row ∷ [] }

-- the machine gets its pages, which no extent holds yet
abbrev pub set_pages : ℕ → State → State
set_pages count s = record s { holders = replicate count (serial_of 0) }

-- the root extent gets its span, and holds all pages
abbrev pub add_root : ExtentRow → State → State
add_root row s = record s {
  extents = s.extents ++ row ∷ [];
  holders = replicate (length s.holders) row.serial;
}

-- pages from a first one on change their holder
abbrev pub move_pages : ℕ → ℕ → Serial → List Serial → List Serial
move_pages first count holder holders =
    take first holders ++ replicate count holder ++ drop (first + count) holders

-- a run of pages of the machine changes its holder; there is no other run
abbrev pub moved_run : ℕ → ℕ → Serial → List Serial → List Serial
moved_run first count holder holders =
    if nat_le (first + count) (length holders) then move_pages first count holder holders
    else holders

abbrev pub move_run : ℕ → ℕ → Serial → State → State
move_run first count holder s = record s { holders = moved_run first count holder s.holders }

abbrev pub put_mapping : MappingRow → State → State
put_mapping row s = record s { mappings = s.mappings ++ row ∷ [] }

-- a row of the map call of this address space, extent, base, offset and count
abbrev pub is_mapping : ℕ → ℕ → ℕ → ℕ → ℕ → MappingRow → Bool
is_mapping space extent base offset count row =
    (row.handle == 0) && (row.space.0 == space) && (row.extent.0 == extent)
    && (row.base == base) && (row.offset == offset) && (row.count == count)

abbrev pub drop_mapping : MappingRow → State → State
drop_mapping row s =
    record s {
      mappings = without (is_mapping row.space.0 row.extent.0 row.base row.offset row.count)
          s.mappings;
    }

-- doorbells and queues

abbrev pub replaced : BellRow → BellRow → BellRow
replaced row old = row

abbrev pub set_bell : BellRow → State → State
set_bell row s = record s { bells = change_row (is_bell row.serial.0) (replaced row) s.bells }

abbrev pub with_room : ℕ → ℕ → QueueRow → QueueRow
with_room depth size row = record row { depth = depth; size = size; messages = [] }

-- a queue gets its room, which its object's cost holds already
abbrev pub set_room : Serial → ℕ → ℕ → State → State
set_room queue depth size s =
    record s { queues = change_row (is_queue queue.0) (with_room depth size) s.queues }

abbrev pub with_cost : ℕ → ObjectRow → ObjectRow
with_cost cost row = record row { cost = cost }

-- a queue gets its room, and its object the cost of it
abbrev pub configure_queue : Serial → ℕ → ℕ → ℕ → State → State
configure_queue queue depth size cost s = record s {
  queues = change_row (is_queue queue.0) (with_room depth size) s.queues;
  objects = change_row (is_object queue.0) (with_cost cost) s.objects;
}

abbrev pub with_message : List ℕ → QueueRow → QueueRow
with_message message row = record row { messages = row.messages ++ message ∷ [] }

abbrev pub put_message : Serial → List ℕ → State → State
put_message queue message s =
    record s { queues = change_row (is_queue queue.0) (with_message message) s.queues }

abbrev pub without_first : QueueRow → QueueRow
without_first row = record row { messages = drop 1 row.messages }

abbrev pub drop_message : Serial → State → State
drop_message queue s = record s { queues = change_row (is_queue queue.0) without_first s.queues }

abbrev pub without_messages : QueueRow → QueueRow
without_messages row = record row { messages = [] }

abbrev pub empty_queue : Serial → State → State
empty_queue queue s = record s { queues = change_row (is_queue queue.0) without_messages s.queues }

-- CPUs

abbrev pub as_exited : CpuRow → CpuRow
as_exited row = record row { exited = true }

abbrev pub exit_cpu : ℕ → State → State
exit_cpu cpu s = record s { cpus = change_row (is_cpu cpu) as_exited s.cpus }

-- a CPU is attached to its spaces
abbrev pub add_cpu : CpuRow → State → State
add_cpu row s = record s { cpus = s.cpus ++ row ∷ [] }

-- a VM is linked to the resource manager
abbrev pub add_link : LinkRow → State → State
add_link row s = record s { links = s.links ++ row ∷ [] }

-- the resource manager's bell rings once more
abbrev pub ring : State → State
ring s = record s { rings = s.rings + 1 }

-- a change of the state
abbrev pub changed : State → Change → State
changed s (PutCapability row) = put_capability row s
changed s (DropCapability cspace slot) = drop_capability cspace slot s
changed s (RevokeCapability cspace slot) = revoke_capability cspace slot s
changed s (AddObject row) = add_object row s
changed s (SetStage object stage) = set_stage object stage s
changed s (Retire object seen) = retire_object object seen s
changed s (Reclaim object) = reclaim_object object s
changed s (GiveQuota partition quota) = give_quota partition quota s
changed s (AddExtent row) = add_extent row s
changed s (MovePages first count holder) = move_run first count holder s
changed s (PutMapping row) = put_mapping row s
changed s (DropMapping row) = drop_mapping row s
changed s (SetBell row) = set_bell row s
changed s (ConfigureQueue queue depth size cost) = configure_queue queue depth size cost s
changed s (PutMessage queue message) = put_message queue message s
changed s (DropMessage queue) = drop_message queue s
changed s (EmptyQueue queue) = empty_queue queue s
changed s (Exit cpu) = exit_cpu cpu.0 s
changed s Ring = ring s
changed s (SetPages count) = set_pages count s
changed s (AddPartition quota) = add_partition quota s
changed s (AddRoot row) = add_root row s
changed s (SetRoom queue depth size) = set_room queue depth size s
changed s (FillSlot row) = fill_slot row s
changed s (AddCpu row) = add_cpu row s
changed s (AddLink row) = add_link row s

-- changes in order
abbrev pub changed_all : State → List Change → State
changed_all s changes = fold changed s changes
