-- When a change may be made: what the state before it must have, so that the state after it is
-- valid and references change as the change tells.
use Rattle.std.specs.Prelude.{◌==◌, ◌≡◌, ◌+◌, ◌≤◌, ◌<◌, ℕ, true, false, List, [], ◌∷◌, length, Some, None, IsTrue, ⊤, find, is_some, count_by}
use Rattle.gh_base.specs.declared.ids.Serial.{Serial}
use Rattle.gh_base.specs.declared.kind.Kind.TheVariants as kind
use Rattle.gh_base.specs.declared.limits.TheConstants.{MACHINE_PAGES, MESSAGE_BYTES, PARTITION_UNITS, QUEUE_DEPTH}
use Rattle.gh_model.specs.Boot.{is_row_of, is_kind, is_master_of}
use Rattle.gh_model.specs.Decisions.{is_init_stage}
use Rattle.gh_model.specs.Changes.{changed, is_mapping}
use Rattle.gh_model.specs.History.{is_unretired, is_retired}
use Rattle.gh_model.specs.MemoryCalls.{is_within_span}
use Rattle.gh_model.specs.ObjectCalls.{is_full}
use Rattle.gh_model.specs.References.{references}
use Rattle.gh_model.specs.Rows.{cpu_row, object_row, is_partition, is_extent, is_queue, fills}
use Rattle.gh_model.specs.Units.{free_units}
use Rattle.gh_model.specs.Word.{is_slot}
use Rattle.gh_model.specs.declared.change.Change.{Change}
use Rattle.gh_model.specs.declared.change.Change.TheVariants.{PutCapability, DropCapability, RevokeCapability, AddObject, SetStage, Retire, Reclaim, GiveQuota, AddExtent, MovePages, PutMapping, DropMapping, SetBell, ConfigureQueue, PutMessage, DropMessage, EmptyQueue, Exit, Ring, SetPages, AddPartition, AddRoot, SetRoom, FillSlot, AddCpu, AddLink}
use Rattle.gh_model.specs.declared.rows.ObjectRow.{ObjectRow}
use Rattle.gh_model.specs.declared.rows.PartitionRow.{PartitionRow}
use Rattle.gh_model.specs.declared.rows.ExtentRow.{ExtentRow}
use Rattle.gh_model.specs.declared.rows.CapabilityRow.{CapabilityRow}
use Rattle.gh_model.specs.declared.rows.CpuRow.{CpuRow}
use Rattle.gh_model.specs.declared.rows.LinkRow.{LinkRow}
use Rattle.gh_model.specs.declared.rows.MappingRow.{MappingRow}
use Rattle.gh_model.specs.declared.rows.QueueRow.{QueueRow}
use Rattle.gh_model.specs.declared.state.State.{State}
use Rattle.gh_invariant.specs.Lives.{has_kind_rights, is_root, link_stands, mapping_stands, meets, span_fits}

-- a reference may come to the object: it isn't retired
abbrev pub MayRefer : State → ℕ → Type 0
MayRefer s object = is_retired (object_row s object) ≡ false

-- a slot that is free is filled with a valid capability of an object that lives and has this kind,
-- with no more rights than those of the kind, and as its only master where it is one
pub record MayPut (s : State) (row : CapabilityRow) : Type 0 where
  pub slot : IsTrue (is_slot row.slot)
  pub free : find (fills row.cspace.0 row.slot) s.caps ≡ None
  pub home : IsTrue (is_kind s row.cspace.0 kind.Cspace)
  pub object : IsTrue (is_kind s row.serial.0 row.kind)
  pub valid : row.valid ≡ true
  pub rights : IsTrue (has_kind_rights row)
  pub master : row.master ≡ true → count_by (is_master_of row.serial.0) s.caps ≡ 0
  -- the slot's references
  pub from_slot : MayRefer s row.cspace.0
  pub from_capability : MayRefer s row.serial.0

-- the slot is filled
abbrev pub IsFilled : State → Serial → ℕ → Type 0
IsFilled s cspace slot = IsTrue (is_some (find (fills cspace.0 slot) s.caps))

-- the object has the next serial and isn't retired, its partition has the units, and there is room
-- for its kind. One that is to be configured costs one unit by now
pub record MayAdd (s : State) (row : ObjectRow) : Type 0 where
  pub serial : row.serial.0 ≡ s.next_serial
  pub partition : IsTrue (is_kind s row.partition.0 kind.Partition)
  pub room : is_full s row.kind ≡ false
  pub some : 0 < row.cost
  pub units : row.cost ≤ free_units s row.partition.0
  pub new : IsTrue (is_init_stage row.stage) → row.cost ≡ 1
  pub unretired : row.retired ≡ None
  pub from_object : MayRefer s row.partition.0

-- the object lives and isn't retired, and nothing refers to it
pub record MayRetire (s : State) (object : ℕ) : Type 0 where
  pub lives : IsTrue (is_unretired (object_row s object))
  pub doomed : references s object ≡ 0

-- the object is retired, and still nothing refers to it
pub record MayReclaim (s : State) (object : ℕ) : Type 0 where
  pub retired : IsTrue (is_retired (object_row s object))
  pub doomed : references s object ≡ 0

-- the partition is one that was made by a call and has no quota yet, and the one that it lives in
-- has so many units
pub record MayGive (s : State) (partition quota : ℕ) : Type 0 where
  pub row : PartitionRow
  pub found : find (is_partition partition) s.partitions ≡ Some row
  pub none : row.quota ≡ 0
  pub called : 0 < row.parent.0
  pub small : quota ≤ PARTITION_UNITS
  pub units : quota ≤ free_units s row.parent.0
  -- it was configured, or is about to be
  pub stage : (object : ObjectRow) → object_row s partition ≡ Some object
      → is_init_stage object.stage ≡ false

-- the extent lives, is no longer new and has no span yet; the span is a part of its parent's
pub record MaySpan (s : State) (row : ExtentRow) : Type 0 where
  pub object : ObjectRow
  pub lives : object_row s row.serial.0 ≡ Some object
  pub kind : IsTrue (is_kind s row.serial.0 kind.Extent)
  pub stage : is_init_stage object.stage ≡ false
  pub none : find (is_extent row.serial.0) s.extents ≡ None
  -- the root extent comes with the boot alone
  pub parent : 0 < row.parent.0
  pub fits : IsTrue (span_fits (length s.holders) s.extents row)
  pub from_child : MayRefer s row.parent.0

-- the pages lie in the span of the new holder
pub record MayMove (s : State) (first count : ℕ) (holder : Serial) : Type 0 where
  pub row : ExtentRow
  pub found : find (is_extent holder.0) s.extents ≡ Some row
  pub within : IsTrue (is_within_span row first count)

-- the row's pages are free in its address space, and there is room
pub record MayMap (s : State) (row : MappingRow) : Type 0 where
  pub stands : IsTrue (mapping_stands s.objects s.extents row)
  pub apart : meets row s.mappings ≡ false
  pub few : count_by (is_row_of row.space.0) s.mappings < 64
  pub from_space : MayRefer s row.space.0
  pub from_extent : MayRefer s row.extent.0

-- the row is there
abbrev pub MayUnmap : State → MappingRow → Type 0
MayUnmap s row =
    find (is_mapping row.space.0 row.extent.0 row.base row.offset row.count) s.mappings ≡ Some row

-- the queue has room for a message more, and the message isn't too long
pub record MaySend (s : State) (queue : ℕ) (message : List ℕ) : Type 0 where
  pub row : QueueRow
  pub found : find (is_queue queue) s.queues ≡ Some row
  pub room : length row.messages < row.depth
  pub short : length message ≤ row.size

-- the queue is no longer new, cost one unit so far, and its partition has the others
pub record MayConfigure (s : State) (queue depth size cost : ℕ) : Type 0 where
  pub row : ObjectRow
  pub found : object_row s queue ≡ Some row
  pub kind : IsTrue (is_kind s queue kind.Queue)
  pub stage : is_init_stage row.stage ≡ false
  pub one : row.cost ≡ 1
  pub some : 0 < cost
  pub units : cost ≤ free_units s row.partition.0 + 1
  pub deep : depth ≤ QUEUE_DEPTH
  pub wide : size ≤ MESSAGE_BYTES

-- there is no extent yet, and the pages are few
pub record MaySetPages (s : State) (count : ℕ) : Type 0 where
  pub none : s.extents ≡ []
  pub few : count ≤ MACHINE_PAGES

-- there is room for a partition, and its quota holds its own unit
pub record MayAddPartition (s : State) (quota : ℕ) : Type 0 where
  pub room : is_full s kind.Partition ≡ false
  pub some : 1 ≤ quota
  pub small : quota ≤ PARTITION_UNITS

-- the extent lives and is no longer new, the machine has pages, and no extent has a span yet; the
-- span is all pages
pub record MayAddRoot (s : State) (row : ExtentRow) : Type 0 where
  pub object : ObjectRow
  pub lives : object_row s row.serial.0 ≡ Some object
  pub kind : IsTrue (is_kind s row.serial.0 kind.Extent)
  pub stage : is_init_stage object.stage ≡ false
  pub pages : 0 < length s.holders
  pub first : s.extents ≡ []
  pub whole : IsTrue (is_root (length s.holders) row)
  pub from_itself : MayRefer s row.serial.0

-- the room is within a queue's limits
pub record MaySetRoom (depth size : ℕ) : Type 0 where
  pub deep : depth ≤ QUEUE_DEPTH
  pub wide : size ≤ MESSAGE_BYTES

-- the CPU is new and hasn't exited, and its spaces live
pub record MayAttach (s : State) (row : CpuRow) : Type 0 where
  pub new : cpu_row s row.cpu.0 ≡ None
  pub runs : row.exited ≡ false
  pub cspace : IsTrue (is_kind s row.cspace.0 kind.Cspace)
  pub space : IsTrue (is_kind s row.space.0 kind.Space)
  pub from_cspace : MayRefer s row.cspace.0
  pub from_space : MayRefer s row.space.0

-- what the link names lives, and its queues are two
pub record MayLink (s : State) (row : LinkRow) : Type 0 where
  pub cpu : CpuRow
  pub found : cpu_row s row.vm.0 ≡ Some cpu
  pub stands : IsTrue (link_stands s.objects s.cpus row)
  pub apart : (row.request.0 == row.reply.0) ≡ false
  pub from_space : MayRefer s cpu.space.0
  pub from_extent : MayRefer s row.extent.0
  pub from_request : MayRefer s row.request.0
  pub from_reply : MayRefer s row.reply.0

-- when a change may be made
abbrev pub MayChange : State → Change → Type 0
MayChange s (PutCapability row) = MayPut s row
MayChange s (DropCapability cspace slot) = IsFilled s cspace slot
MayChange s (RevokeCapability cspace slot) = IsFilled s cspace slot
MayChange s (AddObject row) = MayAdd s row
MayChange s (SetStage object stage) = is_init_stage stage ≡ false
MayChange s (Retire object seen) = MayRetire s object.0
MayChange s (Reclaim object) = MayReclaim s object.0
MayChange s (GiveQuota partition quota) = MayGive s partition.0 quota
MayChange s (AddExtent row) = MaySpan s row
MayChange s (MovePages first count holder) = MayMove s first count holder
MayChange s (PutMapping row) = MayMap s row
MayChange s (DropMapping row) = MayUnmap s row
MayChange s (SetBell row) = ⊤
MayChange s (ConfigureQueue queue depth size cost) = MayConfigure s queue.0 depth size cost
MayChange s (PutMessage queue message) = MaySend s queue.0 message
MayChange s (DropMessage queue) = ⊤
MayChange s (EmptyQueue queue) = ⊤
MayChange s (Exit cpu) = ⊤
MayChange s Ring = ⊤
MayChange s (SetPages count) = MaySetPages s count
MayChange s (AddPartition quota) = MayAddPartition s quota
MayChange s (AddRoot row) = MayAddRoot s row
MayChange s (SetRoom queue depth size) = MaySetRoom depth size
MayChange s (FillSlot row) = MayPut s row
MayChange s (AddCpu row) = MayAttach s row
MayChange s (AddLink row) = MayLink s row

-- changes in order, each in the state that those before it made
pub record Together (First Others : Type 0) : Type 0 where
  pub first : First
  pub others : Others

abbrev pub MayChangeAll : State → List Change → Type 0
MayChangeAll s [] = ⊤
MayChangeAll s (change ∷ changes) =
    Together (MayChange s change) (MayChangeAll (changed s change) changes)
