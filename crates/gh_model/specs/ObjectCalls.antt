-- What the calls on objects come to: their own refusals in order, and their changes.
use Rattle.std.specs.Prelude.{◌||◌, ◌+◌, ◌*◌, ◌/◌, ℕ, Bool}
use Rattle.std.specs.Prelude.{true, false, [], ◌∷◌, Option, Some, None}
use Rattle.std.specs.Prelude.{nat_lt, nat_le, find, if◌then◌else◌}
use Rattle.gh_base.specs.Kind.{kind_cost, kind_rights, kind_stage, kind_numbered}
use Rattle.gh_base.specs.declared.errno.Errno.TheVariants.{ArgInval, Nomem, ObjConfig}
use Rattle.gh_base.specs.declared.errno.Errno.TheVariants.{ObjState, CspaceFull}
use Rattle.gh_base.specs.declared.ids.Serial.{Serial}
use Rattle.gh_base.specs.declared.ids.TheConstants.Rights as right
use Rattle.gh_base.specs.declared.kind.Kind.{Kind}
use Rattle.gh_base.specs.declared.limits.TheConstants.{CSPACES, MESSAGE_BYTES, PARTITIONS}
use Rattle.gh_base.specs.declared.limits.TheConstants.{PARTITION_UNITS, QUEUE_DEPTH}
use Rattle.gh_base.specs.declared.kind.Kind.TheVariants as kind
use Rattle.gh_base.specs.declared.kind.Stage.TheVariants.{Ready, Active}
use Rattle.gh_model.specs.declared.change.Decision.{Decision}
use Rattle.gh_model.specs.declared.change.Decision.TheVariants.{Refuse, Make}
use Rattle.gh_model.specs.declared.change.Change.TheVariants.{PutCapability, AddObject, SetStage}
use Rattle.gh_model.specs.declared.change.Change.TheVariants.{GiveQuota, ConfigureQueue}
use Rattle.gh_model.specs.declared.rows.CapabilityRow.{CapabilityRow}
use Rattle.gh_model.specs.declared.rows.ObjectRow.{ObjectRow}
use Rattle.gh_model.specs.declared.rows.PartitionRow.{PartitionRow}
use Rattle.gh_model.specs.declared.state.State.{State}
use Rattle.gh_model.specs.Boot.{kind_count, queue_cost, serial_of}
use Rattle.gh_model.specs.CapabilityCalls.{free_slot}
use Rattle.gh_model.specs.Decisions.{done, done_with, make_one, is_init_stage}
use Rattle.gh_model.specs.Rows.{object_row, is_partition}
use Rattle.gh_model.specs.Units.{free_units}

-- create: a new object of the next serial, and its master capability in the least free slot

-- as many partitions, or capability spaces, as there can be
abbrev pub is_full : State → Kind → Bool
is_full s kind.Partition = nat_le PARTITIONS (kind_count s kind.Partition)
is_full s kind.Cspace = nat_le CSPACES (kind_count s kind.Cspace)
is_full s _ = false

-- the free units are fewer than the cost, or there are as many of the kind as there can be
abbrev pub lacks_room : State → Serial → Kind → Bool
lacks_room s partition k = nat_lt (free_units s partition.0) (kind_cost k) || is_full s k

-- the row of a new object, with the next serial
abbrev pub new_object : State → Serial → Kind → ObjectRow
new_object s partition k = record {
  serial = serial_of s.next_serial;
  kind = k;
  partition = partition;
  stage = kind_stage k;
  cost = kind_cost k;
  retired = None;
}

-- all rights of the kind but the resource manager's
abbrev pub master_rights : Kind → ℕ
master_rights kind.Partition = right.CREATE.0 + right.ACTIVATE.0
master_rights kind.Cspace = kind_rights kind.Cspace
master_rights kind.Space = kind_rights kind.Space
master_rights kind.Extent = kind_rights kind.Extent
master_rights kind.Bell = kind_rights kind.Bell
master_rights kind.Queue = kind_rights kind.Queue

-- the master capability of a new object in a slot
abbrev pub new_master : State → Serial → ℕ → Kind → CapabilityRow
new_master s cspace slot k = record {
  cspace = cspace;
  slot = slot;
  serial = serial_of s.next_serial;
  kind = k;
  rights = record { 0 = master_rights k };
  master = true;
  valid = true;
}

-- create, where the space has this free slot, if it has one
abbrev pub created_in : State → Serial → Serial → Kind → Option ℕ → Decision
created_in s partition cspace k None = Refuse CspaceFull
created_in s partition cspace k (Some slot) =
    if lacks_room s partition k then Refuse Nomem
    else Make
    (AddObject (new_object s partition k) ∷ PutCapability (new_master s cspace slot k) ∷ [])
    (done_with slot)

-- a number that names no kind comes from no frame
abbrev pub created : State → Serial → Serial → Option Kind → Decision
created s partition cspace None = Refuse ArgInval
created s partition cspace (Some k) = created_in s partition cspace k (free_slot s cspace.0)

-- create: an object of the kind with this number, and its master capability
abbrev pub create : State → Serial → Serial → ℕ → Decision
create s partition cspace number = created s partition cspace (kind_numbered number)

-- configure_partition: the quota comes from the parent's free units
abbrev pub quota_given : State → Serial → ℕ → Option PartitionRow → Decision
quota_given s partition quota None = Refuse Nomem
quota_given s partition quota (Some row) =
    if nat_lt (free_units s row.parent.0) quota then Refuse Nomem
    else Make (SetStage partition Ready ∷ GiveQuota partition quota ∷ []) done

-- a quota above 128 comes from no frame
abbrev pub configure_partition : State → Serial → ℕ → Decision
configure_partition s partition quota =
    if nat_lt PARTITION_UNITS quota then Refuse ArgInval
    else quota_given s partition quota (find (is_partition partition.0) s.partitions)

-- configure_queue: the room of its messages in pages, rounded up, comes from its partition's free
-- units
abbrev pub room_cost : ℕ → ℕ → ℕ
room_cost depth size = (depth * size + 4095) / 4096

-- the room of a queue, taken from the partition in its object's row
abbrev pub room_given : State → Serial → ℕ → ℕ → Option ObjectRow → Decision
room_given s queue depth size None = Refuse Nomem
room_given s queue depth size (Some row) =
    if nat_lt (free_units s row.partition.0) (room_cost depth size) then Refuse Nomem
    else Make
    (SetStage queue Ready ∷ ConfigureQueue queue depth size (queue_cost depth size) ∷ [])
    done

-- a depth above 64 or a size above 1,024 comes from no frame
abbrev pub configure_queue : State → Serial → ℕ → ℕ → Decision
configure_queue s queue depth size =
    if nat_lt QUEUE_DEPTH depth || nat_lt MESSAGE_BYTES size then Refuse ArgInval
    else room_given s queue depth size (object_row s queue.0)

-- activate: an object that isn't configured is 34; one that is active was 33 before
abbrev pub activated : Serial → Option ObjectRow → Decision
activated object None = Refuse ObjState
activated object (Some row) =
    if is_init_stage row.stage then Refuse ObjConfig else make_one (SetStage object Active) done

-- activate: the object is active from here on
abbrev pub activate : State → Serial → Decision
activate s object = activated object (object_row s object.0)
