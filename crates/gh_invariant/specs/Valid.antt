-- What every state of the machine keeps, from the boot on and through every entry of the history.
use Rattle.std.specs.Prelude.{◌≡◌, ◌+◌, ◌≤◌, ◌<◌, ℕ, Bool, true, List, [], length, Some, IsTrue, find, count_by, slice_get}
use Rattle.std.specs.List.{list_all}
use Rattle.gh_base.specs.declared.ids.Serial.{Serial}
use Rattle.gh_base.specs.declared.kind.Kind.{Kind}
use Rattle.gh_base.specs.declared.kind.Kind.TheVariants as kind
use Rattle.gh_base.specs.declared.limits.TheConstants.{CSPACES, PARTITIONS, MACHINE_PAGES}
use Rattle.gh_model.specs.Boot.{is_master_of, is_row_of}
use Rattle.gh_model.specs.History.{is_retired}
use Rattle.gh_model.specs.References.{references}
use Rattle.gh_model.specs.QueueCalls.{one_if}
use Rattle.gh_model.specs.Rows.{object_row, is_object, is_partition, is_extent, is_bell, is_queue, is_cpu, fills, tells_setting}
use Rattle.gh_model.specs.Units.{used_by, given_by, row_quota}
use Rattle.gh_model.specs.declared.rows.BellRow.{BellRow}
use Rattle.gh_model.specs.declared.rows.ObjectRow.{ObjectRow}
use Rattle.gh_model.specs.declared.rows.PartitionRow.{PartitionRow}
use Rattle.gh_model.specs.declared.rows.ExtentRow.{ExtentRow}
use Rattle.gh_model.specs.declared.rows.CapabilityRow.{CapabilityRow}
use Rattle.gh_model.specs.declared.rows.SetAtRow.{SetAtRow}
use Rattle.gh_model.specs.declared.rows.MappingRow.{MappingRow}
use Rattle.gh_model.specs.declared.rows.QueueRow.{QueueRow}
use Rattle.gh_model.specs.declared.rows.CpuRow.{CpuRow}
use Rattle.gh_model.specs.declared.rows.LinkRow.{LinkRow}
use Rattle.gh_model.specs.declared.state.State.{State}
use Rattle.gh_invariant.specs.Lives.{is_parentless, queue_fits, lives_as, is_housed, slot_fits, setting_fits, span_fits, spans_page, mapping_stands, are_apart, quota_fits, cost_fits, cpu_fits, link_stands, kind_total}

-- objects: a serial is that of one object at most, and each object lives in a partition that lives
pub record ObjectsFit (next_serial : ℕ) (objects : List ObjectRow) : Type 0 where
  pub some : 0 < next_serial
  pub once : (serial : ℕ) → count_by (is_object serial) objects ≤ 1
  -- serial 0 and those that aren't given yet are no object's
  pub none : count_by (is_object 0) objects ≡ 0
  pub later : (serial : ℕ) → next_serial ≤ serial → count_by (is_object serial) objects ≡ 0
  pub housed : IsTrue (list_all (is_housed objects) objects)
  -- at most eight partitions and sixteen capability spaces
  pub partitions : kind_total objects kind.Partition ≤ PARTITIONS
  pub cspaces : kind_total objects kind.Cspace ≤ CSPACES

-- slots: a slot has at most one capability and one setting, by an entry up to the last
pub record SlotsFit (next_serial last : ℕ) (objects : List ObjectRow) (caps : List CapabilityRow)
    (set_at : List SetAtRow) : Type 0 where
  pub once : (cspace slot : ℕ) → count_by (fills cspace slot) caps ≤ 1
  -- an object has at most one master capability
  pub masters : (object : ℕ) → count_by (is_master_of object) caps ≤ 1
  pub filled : IsTrue (list_all (slot_fits next_serial objects) caps)
  pub set_once : (cspace slot : ℕ) → count_by (tells_setting cspace slot) set_at ≤ 1
  pub set : IsTrue (list_all (setting_fits last objects) set_at)

-- each object of a kind has one row, or one at most, and no other serial has one
abbrev pub HasOneEach : {R : Type 0} → List ObjectRow → Kind → (ℕ → R → Bool) → List R → Type 0
HasOneEach objects k is_row rows =
    (serial : ℕ) → count_by (is_row serial) rows ≡ one_if (lives_as objects serial k)

abbrev pub HasOneAtMost : {R : Type 0} → List ObjectRow → Kind → (ℕ → R → Bool) → List R → Type 0
HasOneAtMost objects k is_row rows =
    (serial : ℕ) → count_by (is_row serial) rows ≤ one_if (lives_as objects serial k)

-- an object of a kind has the one row of its kind; an extent gets its span later
pub record KindRowsFit (objects : List ObjectRow) (partition_rows : List PartitionRow)
    (bell_rows : List BellRow) (queue_rows : List QueueRow)
    (extent_rows : List ExtentRow) : Type 0 where
  pub partitions : HasOneEach objects kind.Partition is_partition partition_rows
  pub bells : HasOneEach objects kind.Bell is_bell bell_rows
  pub queues : HasOneEach objects kind.Queue is_queue queue_rows
  pub extents : HasOneAtMost objects kind.Extent is_extent extent_rows

-- units: what a partition uses and gives is within its quota. The boot's quotas have the parent 0,
-- which is no partition
pub record UnitsFit (objects : List ObjectRow) (partitions : List PartitionRow)
    (extents : List ExtentRow) : Type 0 where
  pub within : (partition : ℕ) → 0 < partition
      → used_by objects partition + given_by partitions partition
      ≤ row_quota (find (is_partition partition) partitions)
  pub quotas : IsTrue (list_all (quota_fits objects) partitions)
  pub costs : IsTrue (list_all (cost_fits partitions extents) objects)

-- spans: each is the whole machine or a part of its parent's, with no more access
-- pages: once there is an extent, each is held by one in whose span it lies
pub record PagesFit (holders : List Serial) (extents : List ExtentRow) : Type 0 where
  pub few : length holders ≤ MACHINE_PAGES
  pub spans : IsTrue (list_all (span_fits (length holders) extents) extents)
  -- one extent at most is the root
  pub root : count_by is_parentless extents ≤ 1
  pub held : 0 < length extents → (page : ℕ) (holder : Serial)
      → slice_get holders page ≡ Some holder
      → IsTrue (spans_page page (find (is_extent holder.0) extents))

-- mapping rows: of each address space at most 64, and no two with a page in common
pub record MappingsFit (objects : List ObjectRow) (extents : List ExtentRow)
    (mappings : List MappingRow) : Type 0 where
  pub stand : IsTrue (list_all (mapping_stands objects extents) mappings)
  pub few : (space : ℕ) → count_by (is_row_of space) mappings ≤ 64
  pub apart : IsTrue (are_apart mappings)

-- CPUs: at most one of a number; what those that haven't exited and the links name lives
pub record CpusFit (objects : List ObjectRow) (cpus : List CpuRow)
    (links : List LinkRow) : Type 0 where
  pub once : (cpu : ℕ) → count_by (is_cpu cpu) cpus ≤ 1
  pub attached : IsTrue (list_all (cpu_fits objects) cpus)
  pub linked : IsTrue (list_all (link_stands objects cpus) links)

-- all of it, where no slot was set by an entry above the last
pub record IsValidTo (last : ℕ) (s : State) : Type 0 where
  pub objects : ObjectsFit s.next_serial s.objects
  pub slots : SlotsFit s.next_serial last s.objects s.caps s.set_at
  pub rows : KindRowsFit s.objects s.partitions s.bells s.queues s.extents
  pub units : UnitsFit s.objects s.partitions s.extents
  pub pages : PagesFit s.holders s.extents
  pub mappings : MappingsFit s.objects s.extents s.mappings
  pub cpus : CpusFit s.objects s.cpus s.links
  pub queues : IsTrue (list_all queue_fits s.queues)
  -- what is retired has no references
  pub retired : (object : ℕ) → is_retired (object_row s object) ≡ true → references s object ≡ 0
  -- no parcels are made yet
  pub parcels : s.parcels ≡ []

-- between two entries: each slot was set by one of the entries
abbrev pub IsValid : State → Type 0
IsValid s = IsValidTo s.entries s

-- in the midst of an entry, which may have set slots before it is counted
abbrev pub IsValidWithin : State → Type 0
IsValidWithin s = IsValidTo (s.entries + 1) s
