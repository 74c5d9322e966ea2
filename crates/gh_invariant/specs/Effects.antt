-- What each change does to references: the objects that it gives a reference, and those that it
-- takes one from, each named once for each reference. And the units that it takes from partitions
-- or returns to them, and the slot that it sets.
use Rattle.std.specs.Prelude.{◌==◌, ◌&&◌, not, ℕ, Bool, true, false, List, [], ◌∷◌, ◌++◌, Option, Some, None, find, count_by, is_some, sum_by, if◌then◌else◌, option_map}
use Rattle.gh_base.specs.declared.ids.Serial.{Serial}
use Rattle.gh_model.specs.Changes.{changed, as_revoked, serial_of}
use Rattle.gh_model.specs.Rows.{object_row, cpu_row, is_partition, is_extent, fills}
use Rattle.gh_model.specs.declared.change.Change.{Change}
use Rattle.gh_model.specs.declared.change.Change.TheVariants.{PutCapability, DropCapability, RevokeCapability, AddObject, Reclaim, GiveQuota, ConfigureQueue, AddExtent, PutMapping, DropMapping, Exit, AddPartition, AddRoot, FillSlot, AddCpu, AddLink}
use Rattle.gh_model.specs.declared.rows.ObjectRow.{ObjectRow}
use Rattle.gh_model.specs.declared.rows.PartitionRow.{PartitionRow}
use Rattle.gh_model.specs.declared.rows.ExtentRow.{ExtentRow}
use Rattle.gh_model.specs.declared.rows.CapabilityRow.{CapabilityRow}
use Rattle.gh_model.specs.declared.rows.CpuRow.{CpuRow}
use Rattle.gh_model.specs.declared.state.State.{State}

-- how often an object stands in a list
abbrev pub is_that : ℕ → Serial → Bool
is_that object serial = serial.0 == object

abbrev pub times : ℕ → List Serial → ℕ
times object serials = count_by (is_that object) serials

-- a capability refers to its object while it is valid
abbrev pub object_of : CapabilityRow → List Serial
object_of row = if row.valid then row.serial ∷ [] else []

-- a filled slot refers to its capability space and to its object
abbrev pub slot_names : Option CapabilityRow → List Serial
slot_names None = []
slot_names (Some row) = row.cspace ∷ object_of row

abbrev pub object_named : Option CapabilityRow → List Serial
object_named None = []
object_named (Some row) = object_of row

-- an object refers to the partition that it lives in, but for a partition that lives in itself
abbrev pub home_of : ObjectRow → List Serial
home_of row = if row.partition.0 == row.serial.0 then [] else row.partition ∷ []

abbrev pub home_named : Option ObjectRow → List Serial
home_named None = []
home_named (Some row) = home_of row

-- an extent refers to its parent. The root extent, whose parent is 0, is referred to by itself
abbrev pub parent_of : ExtentRow → List Serial
parent_of row = if row.parent.0 == 0 then row.serial ∷ [] else row.parent ∷ []

abbrev pub parent_named : Option ExtentRow → List Serial
parent_named None = []
parent_named (Some row) = parent_of row

-- a CPU refers to what it is attached to until it has exited
abbrev pub attachments : Option CpuRow → List Serial
attachments None = []
attachments (Some row) = if row.exited then [] else row.cspace ∷ row.space ∷ []

-- a link refers to its VM's address space
abbrev pub space_named : Option CpuRow → List Serial
space_named None = []
space_named (Some row) = row.space ∷ []

-- the objects that a change gives a reference. A partition of the boot is referred to by itself
abbrev pub gains : State → Change → List Serial
gains s (PutCapability row) = slot_names (Some row)
gains s (AddObject row) = home_of row
gains s (AddExtent row) = parent_of row
gains s (PutMapping row) = row.space ∷ row.extent ∷ []
gains s (AddPartition quota) = serial_of s.next_serial ∷ []
gains s (AddRoot row) = parent_of row
gains s (FillSlot row) = slot_names (Some row)
gains s (AddCpu row) = attachments (Some row)
gains s (AddLink row) =
    space_named (cpu_row s row.vm.0) ++ row.extent ∷ row.request ∷ row.reply ∷ []
gains s _ = []

-- the objects that a change takes a reference from
abbrev pub losses : State → Change → List Serial
losses s (DropCapability cspace slot) = slot_names (find (fills cspace.0 slot) s.caps)
losses s (RevokeCapability cspace slot) = object_named (find (fills cspace.0 slot) s.caps)
losses s (Reclaim object) =
    home_named (object_row s object.0) ++ parent_named (find (is_extent object.0) s.extents)
losses s (DropMapping row) = row.space ∷ row.extent ∷ []
losses s (Exit cpu) = attachments (cpu_row s cpu.0)
losses s _ = []

-- the same of changes in order, each in the state that those before it made
abbrev pub gained : State → List Change → List Serial
gained s [] = []
gained s (change ∷ changes) = gains s change ++ gained (changed s change) changes

abbrev pub lost : State → List Change → List Serial
lost s [] = []
lost s (change ∷ changes) = losses s change ++ lost (changed s change) changes

-- units, and the partition whose they are
pub record Share : Type 0 where
  pub partition : Serial
  pub units : ℕ

abbrev pub share_for : ℕ → Share → ℕ
share_for partition share = if share.partition.0 == partition then share.units else 0

abbrev pub units_of : ℕ → List Share → ℕ
units_of partition shares = sum_by (share_for partition) shares

-- what an object costs its partition
abbrev pub cost_of : Option ObjectRow → List Share
cost_of None = []
cost_of (Some row) = record { partition = row.partition; units = row.cost } ∷ []

abbrev pub cost_instead : ℕ → Option ObjectRow → List Share
cost_instead cost None = []
cost_instead cost (Some row) = record { partition = row.partition; units = cost } ∷ []

-- what a partition's quota costs the one that gave it
abbrev pub quota_of : Option PartitionRow → List Share
quota_of None = []
quota_of (Some row) = record { partition = row.parent; units = row.quota } ∷ []

abbrev pub quota_instead : ℕ → Option PartitionRow → List Share
quota_instead quota None = []
quota_instead quota (Some row) = record { partition = row.parent; units = quota } ∷ []

-- the units that a change takes from partitions. Serial 0 stands for the giver of the boot's quotas
abbrev pub takes : State → Change → List Share
takes s (AddObject row) = cost_of (Some row)
takes s (GiveQuota partition quota) =
    quota_instead quota (find (is_partition partition.0) s.partitions)
takes s (ConfigureQueue queue depth size cost) = cost_instead cost (object_row s queue.0)
takes s (AddPartition quota) =
    record { partition = serial_of s.next_serial; units = 1 }
    ∷ record { partition = serial_of 0; units = quota } ∷ []
takes s _ = []

-- the units that a change returns to partitions
abbrev pub returns : State → Change → List Share
returns s (Reclaim object) =
    cost_of (object_row s object.0) ++ quota_of (find (is_partition object.0) s.partitions)
returns s (GiveQuota partition quota) = quota_of (find (is_partition partition.0) s.partitions)
returns s (ConfigureQueue queue depth size cost) = cost_of (object_row s queue.0)
returns s _ = []

-- the same of changes in order, each in the state that those before it made
abbrev pub takes_all : State → List Change → List Share
takes_all s [] = []
takes_all s (change ∷ changes) = takes s change ++ takes_all (changed s change) changes

abbrev pub returns_all : State → List Change → List Share
returns_all s [] = []
returns_all s (change ∷ changes) = returns s change ++ returns_all (changed s change) changes

-- the slot that a change sets by the next entry, by its capability space and number
abbrev pub sets : Change → Option (ℕ × ℕ)
sets (PutCapability row) = Some (row.cspace.0, row.slot)
sets (DropCapability cspace slot) = Some (cspace.0, slot)
sets (RevokeCapability cspace slot) = Some (cspace.0, slot)
sets _ = None

-- the capability in the slot that a change sets, once it is made
abbrev pub leaves_in : State → Change → Option CapabilityRow
leaves_in s (PutCapability row) = Some row
leaves_in s (RevokeCapability cspace slot) =
    option_map as_revoked (find (fills cspace.0 slot) s.caps)
leaves_in s _ = None

-- the change sets this slot
abbrev pub is_place : ℕ → ℕ → Option (ℕ × ℕ) → Bool
is_place cspace slot None = false
is_place cspace slot (Some place) = (place.0 == cspace) && (place.1 == slot)

abbrev pub sets_slot : ℕ → ℕ → Change → Bool
sets_slot cspace slot change = is_place cspace slot (sets change)

-- the change leaves the slot as it is: it sets or fills another or none, and the slot's capability
-- space stays
abbrev pub leaves : ℕ → ℕ → Change → Bool
leaves cspace slot (Reclaim object) = not (object.0 == cspace)
leaves cspace slot (FillSlot row) = not (fills cspace slot row)
leaves cspace slot change = not (sets_slot cspace slot change)

-- how many slots changes set
abbrev pub sets_some : Change → Bool
sets_some change = is_some (sets change)

abbrev pub slots_set : List Change → ℕ
slots_set changes = count_by sets_some changes

-- only the last of the changes sets a slot, if any does
abbrev pub sets_last : List Change → Bool
sets_last [] = true
sets_last (change ∷ []) = true
sets_last (change ∷ next ∷ changes) = not (sets_some change) && sets_last (next ∷ changes)
