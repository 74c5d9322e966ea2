-- A change that may be made keeps what is said of objects, of rows of their kinds, of units, of
-- pages and of mapping rows.
use Rattle.std.proofs.Common.{◌≡◌, ◌+◌, ◌≤◌, ◌<◌, ◌∙◌, ◌==◌, ◌++◌, ℕ, zero, suc, Bool, true, false, List, [], ◌∷◌, refl, sym, ap, arith, IsTrue, Option, Some, None, find, nat_le}
use Rattle.std.specs.Prelude.{count_by}
use Rattle.std.proofs.lemmas.Bool.{eqb-true, ne_eqb}
use Rattle.gh_base.specs.declared.ids.Serial.{Serial}
use Rattle.gh_base.specs.declared.kind.Kind.{Kind}
use Rattle.gh_base.specs.declared.kind.Kind.TheVariants as kind
use Rattle.gh_base.specs.declared.kind.Stage.{Stage}
use Rattle.gh_model.specs.Changes.{boot_object, changed, is_mapping, serial_of, replaced, with_cost, with_counters, with_message, with_quota, with_room, with_stage, without_first, without_messages}
use Rattle.gh_model.specs.History.{is_retired}
use Rattle.gh_model.specs.QueueCalls.{one_if}
use Rattle.gh_model.specs.Rows.{change_row, is_bell, is_extent, is_object, is_partition, is_queue, object_row}
use Rattle.gh_model.specs.declared.change.Change.{Change}
use Rattle.gh_model.specs.declared.change.Change.TheVariants.{PutCapability, DropCapability, RevokeCapability, AddObject, SetStage, Retire, Reclaim, GiveQuota, AddExtent, MovePages, PutMapping, DropMapping, SetBell, ConfigureQueue, PutMessage, DropMessage, EmptyQueue, Exit, Ring, SetPages, AddPartition, AddRoot, SetRoom, FillSlot, AddCpu, AddLink}
use Rattle.gh_model.specs.declared.rows.ObjectRow.{ObjectRow}
use Rattle.gh_model.specs.declared.rows.QueueRow.{QueueRow}
use Rattle.gh_model.specs.declared.state.State.{State}
use Rattle.gh_invariant.specs.Lives.{lives_as}
use Rattle.gh_invariant.specs.Premises.{MayAdd, MayChange}
use Rattle.gh_invariant.specs.Valid.{IsValidTo, KindRowsFit, MappingsFit, ObjectsFit, PagesFit, UnitsFit}
use Rattle.gh_invariant.proofs.Counting.{unfound}
use Rattle.gh_invariant.proofs.ChangedRow.{count_change_kept}
use Rattle.gh_invariant.proofs.KindRowsFit.{add_keeps_rows, reclaim_keeps_rows, same_rows, span_keeps_rows}
use Rattle.gh_invariant.proofs.Living.{lives_some}
use Rattle.gh_invariant.proofs.MappingsFit.{drop_keeps_mappings, lives_keep_mappings, put_keeps_mappings, reclaim_keeps_mappings, span_keeps_mappings}
use Rattle.gh_invariant.proofs.ObjectsFit.{KeepsPlace, add_keeps_objects, change_keeps_objects, lives_beside, lives_kept, reclaim_keeps_objects}
use Rattle.gh_invariant.proofs.PagesFit.{add_keeps_pages, move_keeps_pages, reclaim_keeps_pages}
use Rattle.gh_invariant.proofs.PartitionAdded.{objects_now, rows_now, units_now}
use Rattle.gh_invariant.proofs.ReferencesLaw.{unreferenced}
use Rattle.gh_invariant.proofs.RoomFor.{few_cspaces, few_partitions, no_row_by}
use Rattle.gh_invariant.proofs.RootAdded.{pages_come, root_keeps_pages}
use Rattle.gh_invariant.proofs.RowsTested.{count_change_where}
use Rattle.gh_invariant.proofs.UnitsBeside.{add_keeps_units}
use Rattle.gh_invariant.proofs.UnitsFit.{configure_keeps_units, give_keeps_units, retire_keeps_units, span_keeps_units, stage_keeps_units}
use Rattle.gh_invariant.proofs.UnitsLeft.{reclaim_keeps_units}
use Rattle.gh_invariant.proofs.UnitsOfChange.{partition_once}

-- a stage, counters of a retirement and a cost keep an object's place

pub stage_keeps : (stage : Stage) → KeepsPlace (with_stage stage)
stage_keeps stage = record { serial = λ row. refl; kind = λ row. refl; partition = λ row. refl }

pub counters_keep : (seen : List ℕ) → KeepsPlace (with_counters seen)
counters_keep seen = record { serial = λ row. refl; kind = λ row. refl; partition = λ row. refl }

pub cost_keeps : (cost : ℕ) → KeepsPlace (with_cost cost)
cost_keeps cost = record { serial = λ row. refl; kind = λ row. refl; partition = λ row. refl }

-- objects
pub objects_kept : (last : ℕ) (s : State) (change : Change) → IsValidTo last s → MayChange s change
    → ObjectsFit (changed s change).next_serial (changed s change).objects
objects_kept last s (PutCapability row) valid may = valid.objects
objects_kept last s (DropCapability cspace slot) valid may = valid.objects
objects_kept last s (RevokeCapability cspace slot) valid may = valid.objects
objects_kept last s (AddObject row) valid may =
    add_keeps_objects s.next_serial s.objects row may.serial valid.objects
    (lives_beside s.objects row row.partition.0 kind.Partition may.partition)
    (few_partitions s row.kind may.room valid.objects.partitions)
    (few_cspaces s row.kind may.room valid.objects.cspaces)
objects_kept last s (SetStage object stage) valid may =
    change_keeps_objects (is_object object.0) (with_stage stage) (stage_keeps stage) s.objects
    s.next_serial valid.objects
objects_kept last s (Retire object seen) valid may =
    change_keeps_objects (is_object object.0) (with_counters seen) (counters_keep seen) s.objects
    s.next_serial valid.objects
objects_kept last s (Reclaim object) valid may =
    reclaim_keeps_objects s.next_serial s.objects object.0
    (unreferenced s object.0 may.doomed).inhabitants valid.objects
objects_kept last s (GiveQuota partition quota) valid may = valid.objects
objects_kept last s (AddExtent row) valid may = valid.objects
objects_kept last s (MovePages first count holder) valid may = valid.objects
objects_kept last s (PutMapping row) valid may = valid.objects
objects_kept last s (DropMapping row) valid may = valid.objects
objects_kept last s (SetBell row) valid may = valid.objects
objects_kept last s (ConfigureQueue queue depth size cost) valid may =
    change_keeps_objects (is_object queue.0) (with_cost cost) (cost_keeps cost) s.objects
    s.next_serial valid.objects
objects_kept last s (PutMessage queue message) valid may = valid.objects
objects_kept last s (DropMessage queue) valid may = valid.objects
objects_kept last s (EmptyQueue queue) valid may = valid.objects
objects_kept last s (Exit cpu) valid may = valid.objects
objects_kept last s Ring valid may = valid.objects
objects_kept last s (SetPages count) valid may = valid.objects
objects_kept last s (AddPartition quota) valid may = objects_now last s quota valid may
objects_kept last s (AddRoot row) valid may = valid.objects
objects_kept last s (SetRoom queue depth size) valid may = valid.objects
objects_kept last s (FillSlot row) valid may = valid.objects
objects_kept last s (AddCpu row) valid may = valid.objects
objects_kept last s (AddLink row) valid may = valid.objects

-- the rows of each kind

stay_rows : (s : State) (new : List ObjectRow)
    → ((n : ℕ) (k : Kind) → lives_as new n k ≡ lives_as s.objects n k)
    → KindRowsFit s.objects s.partitions s.bells s.queues s.extents
    → KindRowsFit new s.partitions s.bells s.queues s.extents
stay_rows s new lives rows =
    same_rows s.objects new s.partitions s.partitions s.bells s.bells s.queues s.queues s.extents
    lives (λ n. refl) (λ n. refl) (λ n. refl) rows

queue_rows : (s : State) (queue : ℕ) (change : QueueRow → QueueRow)
    → ((row : QueueRow) → (change row).serial ≡ row.serial)
    → KindRowsFit s.objects s.partitions s.bells s.queues s.extents
    → KindRowsFit s.objects s.partitions s.bells (change_row (is_queue queue) change s.queues)
    s.extents
queue_rows s queue change serial rows =
    same_rows s.objects s.objects s.partitions s.partitions s.bells s.bells s.queues
    (change_row (is_queue queue) change s.queues) s.extents (λ n k. refl) (λ n. refl)
    (λ n. refl)
    (λ n. count_change_kept (is_queue n) (is_queue queue) change s.queues
    (λ row. ap (λ (one : Serial). one.0 == n) (serial row))) rows

pub rows_kept : (last : ℕ) (s : State) (change : Change) → IsValidTo last s → MayChange s change
    → KindRowsFit (changed s change).objects (changed s change).partitions (changed s change).bells
    (changed s change).queues (changed s change).extents
rows_kept last s (PutCapability row) valid may = valid.rows
rows_kept last s (DropCapability cspace slot) valid may = valid.rows
rows_kept last s (RevokeCapability cspace slot) valid may = valid.rows
rows_kept last s (AddObject row) valid may =
    add_keeps_rows s.next_serial s.objects row may.serial valid.objects s.partitions s.bells
    s.queues s.extents valid.rows
rows_kept last s (SetStage object stage) valid may =
    stay_rows s (changed s (SetStage object stage)).objects
    (lives_kept (is_object object.0) (with_stage stage) (stage_keeps stage) s.objects)
    valid.rows
rows_kept last s (Retire object seen) valid may =
    stay_rows s (changed s (Retire object seen)).objects
    (lives_kept (is_object object.0) (with_counters seen) (counters_keep seen) s.objects)
    valid.rows
rows_kept last s (Reclaim object) valid may =
    reclaim_keeps_rows s.objects object.0 s.partitions s.bells s.queues s.extents valid.rows
rows_kept last s (GiveQuota partition quota) valid may =
    same_rows s.objects s.objects s.partitions (changed s (GiveQuota partition quota)).partitions
    s.bells s.bells s.queues s.queues s.extents (λ n k. refl)
    (λ n. count_change_kept (is_partition n) (is_partition partition.0) (with_quota quota)
    s.partitions (λ row. refl)) (λ n. refl) (λ n. refl) valid.rows
rows_kept last s (AddExtent row) valid may =
    span_keeps_rows s.objects s.partitions s.bells s.queues s.extents row may.kind may.none
    valid.rows
rows_kept last s (MovePages first count holder) valid may = valid.rows
rows_kept last s (PutMapping row) valid may = valid.rows
rows_kept last s (DropMapping row) valid may = valid.rows
rows_kept last s (SetBell row) valid may =
    same_rows s.objects s.objects s.partitions s.partitions s.bells (changed s (SetBell row)).bells
    s.queues s.queues s.extents (λ n k. refl) (λ n. refl)
    (λ n. count_change_where (is_bell n) (is_bell row.serial.0) (replaced row) s.bells
    (λ old is. ap (λ (m : ℕ). m == n) (sym (eqb-true old.serial.0 row.serial.0 is))))
    (λ n. refl) valid.rows
rows_kept last s (ConfigureQueue queue depth size cost) valid may =
    same_rows s.objects (changed s (ConfigureQueue queue depth size cost)).objects s.partitions
    s.partitions s.bells s.bells s.queues
    (changed s (ConfigureQueue queue depth size cost)).queues s.extents
    (lives_kept (is_object queue.0) (with_cost cost) (cost_keeps cost) s.objects) (λ n. refl)
    (λ n. refl)
    (λ n. count_change_kept (is_queue n) (is_queue queue.0) (with_room depth size) s.queues
    (λ row. refl)) valid.rows
rows_kept last s (PutMessage queue message) valid may =
    queue_rows s queue.0 (with_message message) (λ row. refl) valid.rows
rows_kept last s (DropMessage queue) valid may =
    queue_rows s queue.0 without_first (λ row. refl) valid.rows
rows_kept last s (EmptyQueue queue) valid may =
    queue_rows s queue.0 without_messages (λ row. refl) valid.rows
rows_kept last s (Exit cpu) valid may = valid.rows
rows_kept last s Ring valid may = valid.rows
rows_kept last s (SetPages count) valid may = valid.rows
rows_kept last s (AddPartition quota) valid may = rows_now last s quota valid may
rows_kept last s (AddRoot row) valid may =
    span_keeps_rows s.objects s.partitions s.bells s.queues s.extents row may.kind
    (ap (find (is_extent row.serial.0)) may.first) valid.rows
rows_kept last s (SetRoom queue depth size) valid may =
    queue_rows s queue.0 (with_room depth size) (λ row. refl) valid.rows
rows_kept last s (FillSlot row) valid may = valid.rows
rows_kept last s (AddCpu row) valid may = valid.rows
rows_kept last s (AddLink row) valid may = valid.rows

-- units

module _ (last : ℕ) (s : State) (row : ObjectRow) (valid : IsValidTo last s) (may : MayAdd s row)
  where
    unmade : find (is_object row.serial.0) s.objects ≡ None
    unmade =
        unfound (is_object row.serial.0) s.objects
        (valid.objects.later row.serial.0
        (let same : row.serial.0 ≡ s.next_serial = may.serial in omega arith))

    housed_above : (row.partition.0 == 0) ≡ false
    housed_above =
        ne_eqb row.partition.0 0
        (λ none. (let some : 0 < row.partition.0 =
        lives_some s.objects s.next_serial valid.objects row.partition.0 kind.Partition
        may.partition in omega arith))

    added_units : UnitsFit (changed s (AddObject row)).objects (changed s (AddObject row)).partitions
        s.extents
    added_units =
        add_keeps_units s.objects s.partitions s.extents row valid.units unmade housed_above may.some
        may.units may.new
        (no_row_by (is_partition row.serial.0) s.partitions (find (is_object row.serial.0) s.objects)
        kind.Partition unmade
        (let each : count_by (is_partition row.serial.0) s.partitions
        ≡ one_if (lives_as s.objects row.serial.0 kind.Partition) =
        valid.rows.partitions row.serial.0 in omega arith))
        (no_row_by (is_extent row.serial.0) s.extents (find (is_object row.serial.0) s.objects)
        kind.Extent unmade (valid.rows.extents row.serial.0))

retired_found : (found : Option ObjectRow) → found ≡ None → IsTrue (is_retired found) → ⊥
retired_found None none retired = (let never : ⊥ = cc in never)
retired_found (Some row) none retired = (let never : ⊥ = cc in never)

-- an object that is retired has a serial above 0
retired_some : (last : ℕ) (s : State) (object : ℕ) → IsValidTo last s
    → IsTrue (is_retired (object_row s object)) → 0 < object
retired_some last s zero valid retired =
    absurd (retired_found (object_row s 0) (unfound (is_object 0) s.objects valid.objects.none)
    retired)
retired_some last s (suc n) valid retired = omega arith

pub units_kept : (last : ℕ) (s : State) (change : Change) → IsValidTo last s → MayChange s change
    → UnitsFit (changed s change).objects (changed s change).partitions (changed s change).extents
units_kept last s (PutCapability row) valid may = valid.units
units_kept last s (DropCapability cspace slot) valid may = valid.units
units_kept last s (RevokeCapability cspace slot) valid may = valid.units
units_kept last s (AddObject row) valid may = added_units last s row valid may
units_kept last s (SetStage object stage) valid may =
    stage_keeps_units s.objects s.partitions s.extents valid.units (is_object object.0) stage may
units_kept last s (Retire object seen) valid may =
    retire_keeps_units s.objects s.partitions s.extents valid.units (is_object object.0) seen
units_kept last s (Reclaim object) valid may =
    reclaim_keeps_units s.objects s.partitions s.extents object.0
    (retired_some last s object.0 valid may.retired)
    (unreferenced s object.0 may.doomed).inhabitants valid.units (valid.objects.once object.0)
    (partition_once last s valid object.0)
units_kept last s (GiveQuota partition quota) valid may =
    give_keeps_units s.objects s.partitions s.extents valid.units valid.objects.once may.row
    partition.0 quota may.found may.none may.small may.units may.stage
units_kept last s (AddExtent row) valid may =
    span_keeps_units s.objects s.partitions s.extents row may.object valid.units valid.objects.once
    may.lives may.stage
units_kept last s (MovePages first count holder) valid may = valid.units
units_kept last s (PutMapping row) valid may = valid.units
units_kept last s (DropMapping row) valid may = valid.units
units_kept last s (SetBell row) valid may = valid.units
units_kept last s (ConfigureQueue queue depth size cost) valid may =
    configure_keeps_units s.objects s.partitions s.extents valid.units may.row (is_object queue.0)
    may.found cost may.one may.some may.units may.stage
units_kept last s (PutMessage queue message) valid may = valid.units
units_kept last s (DropMessage queue) valid may = valid.units
units_kept last s (EmptyQueue queue) valid may = valid.units
units_kept last s (Exit cpu) valid may = valid.units
units_kept last s Ring valid may = valid.units
units_kept last s (SetPages count) valid may = valid.units
units_kept last s (AddPartition quota) valid may = units_now last s quota valid may
units_kept last s (AddRoot row) valid may =
    span_keeps_units s.objects s.partitions s.extents row may.object valid.units valid.objects.once
    may.lives may.stage
units_kept last s (SetRoom queue depth size) valid may = valid.units
units_kept last s (FillSlot row) valid may = valid.units
units_kept last s (AddCpu row) valid may = valid.units
units_kept last s (AddLink row) valid may = valid.units

-- pages
pub pages_kept : (last : ℕ) (s : State) (change : Change) → IsValidTo last s → MayChange s change
    → PagesFit (changed s change).holders (changed s change).extents
pages_kept last s (PutCapability row) valid may = valid.pages
pages_kept last s (DropCapability cspace slot) valid may = valid.pages
pages_kept last s (RevokeCapability cspace slot) valid may = valid.pages
pages_kept last s (AddObject row) valid may = valid.pages
pages_kept last s (SetStage object stage) valid may = valid.pages
pages_kept last s (Retire object seen) valid may = valid.pages
pages_kept last s (Reclaim object) valid may =
    reclaim_keeps_pages object.0 s.holders s.extents (unreferenced s object.0 may.doomed).children
    (unreferenced s object.0 may.doomed).root valid.pages
pages_kept last s (GiveQuota partition quota) valid may = valid.pages
pages_kept last s (AddExtent row) valid may =
    add_keeps_pages s.holders s.extents row may.parent may.fits valid.pages
pages_kept last s (MovePages first count holder) valid may =
    move_keeps_pages first count holder s.holders s.extents may.row may.found may.within valid.pages
pages_kept last s (PutMapping row) valid may = valid.pages
pages_kept last s (DropMapping row) valid may = valid.pages
pages_kept last s (SetBell row) valid may = valid.pages
pages_kept last s (ConfigureQueue queue depth size cost) valid may = valid.pages
pages_kept last s (PutMessage queue message) valid may = valid.pages
pages_kept last s (DropMessage queue) valid may = valid.pages
pages_kept last s (EmptyQueue queue) valid may = valid.pages
pages_kept last s (Exit cpu) valid may = valid.pages
pages_kept last s Ring valid may = valid.pages
pages_kept last s (SetPages count) valid may =
    pages_come count (serial_of 0) s.extents may.none may.few
pages_kept last s (AddPartition quota) valid may = valid.pages
pages_kept last s (AddRoot row) valid may =
    root_keeps_pages s.holders s.extents row may.first may.whole may.pages valid.pages
pages_kept last s (SetRoom queue depth size) valid may = valid.pages
pages_kept last s (FillSlot row) valid may = valid.pages
pages_kept last s (AddCpu row) valid may = valid.pages
pages_kept last s (AddLink row) valid may = valid.pages

-- mapping rows

changed_mappings : (s : State) (object : ℕ) (change : ObjectRow → ObjectRow) → KeepsPlace change
    → MappingsFit s.objects s.extents s.mappings
    → MappingsFit (change_row (is_object object) change s.objects) s.extents s.mappings
changed_mappings s object change keeps fit =
    lives_keep_mappings s.objects (change_row (is_object object) change s.objects) s.extents
    s.mappings (λ serial k lives. lives_kept (is_object object) change keeps s.objects serial k
    ∙ lives) fit

pub mappings_kept : (last : ℕ) (s : State) (change : Change) → IsValidTo last s → MayChange s change
    → MappingsFit (changed s change).objects (changed s change).extents (changed s change).mappings
mappings_kept last s (PutCapability row) valid may = valid.mappings
mappings_kept last s (DropCapability cspace slot) valid may = valid.mappings
mappings_kept last s (RevokeCapability cspace slot) valid may = valid.mappings
mappings_kept last s (AddObject row) valid may =
    lives_keep_mappings s.objects (s.objects ++ row ∷ []) s.extents s.mappings
    (lives_beside s.objects row) valid.mappings
mappings_kept last s (SetStage object stage) valid may =
    changed_mappings s object.0 (with_stage stage) (stage_keeps stage) valid.mappings
mappings_kept last s (Retire object seen) valid may =
    changed_mappings s object.0 (with_counters seen) (counters_keep seen) valid.mappings
mappings_kept last s (Reclaim object) valid may =
    reclaim_keeps_mappings s.objects s.extents s.mappings object.0 valid.mappings
mappings_kept last s (GiveQuota partition quota) valid may = valid.mappings
mappings_kept last s (AddExtent row) valid may =
    span_keeps_mappings s.objects s.extents s.mappings row valid.mappings
mappings_kept last s (MovePages first count holder) valid may = valid.mappings
mappings_kept last s (PutMapping row) valid may =
    put_keeps_mappings s.objects s.extents s.mappings valid.mappings row may.stands may.apart
    may.few
mappings_kept last s (DropMapping row) valid may =
    drop_keeps_mappings s.objects s.extents s.mappings valid.mappings
    (is_mapping row.space.0 row.extent.0 row.base row.offset row.count)
mappings_kept last s (SetBell row) valid may = valid.mappings
mappings_kept last s (ConfigureQueue queue depth size cost) valid may =
    changed_mappings s queue.0 (with_cost cost) (cost_keeps cost) valid.mappings
mappings_kept last s (PutMessage queue message) valid may = valid.mappings
mappings_kept last s (DropMessage queue) valid may = valid.mappings
mappings_kept last s (EmptyQueue queue) valid may = valid.mappings
mappings_kept last s (Exit cpu) valid may = valid.mappings
mappings_kept last s Ring valid may = valid.mappings
mappings_kept last s (SetPages count) valid may = valid.mappings
mappings_kept last s (AddPartition quota) valid may =
    lives_keep_mappings s.objects (changed s (AddPartition quota)).objects s.extents s.mappings
    (lives_beside s.objects (boot_object s kind.Partition s.next_serial 1)) valid.mappings
mappings_kept last s (AddRoot row) valid may =
    span_keeps_mappings s.objects s.extents s.mappings row valid.mappings
mappings_kept last s (SetRoom queue depth size) valid may = valid.mappings
mappings_kept last s (FillSlot row) valid may = valid.mappings
mappings_kept last s (AddCpu row) valid may = valid.mappings
mappings_kept last s (AddLink row) valid may = valid.mappings
