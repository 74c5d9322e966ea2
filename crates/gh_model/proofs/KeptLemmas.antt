-- What changes keep: the sums of units and the pages stay small, quotas too, and objects cost units.
use Rattle.std.proofs.Common.{◌≡◌, ◌+◌, ◌-◌, ◌<◌, ◌≤◌, ◌∙◌, ℕ, Bool, true, false, List, [], ◌∷◌, ◌++◌, Option, Some, None, find, length, nat_le, if◌then◌else◌, refl, subst, sym, arith, All}
use Rattle.std.specs.Bool.{⊤}
use Rattle.std.proofs.lemmas.Bool.{eqb-true}
use Rattle.std.proofs.lemmas.List.{append-nil, length-map, length-replicate}
use Rattle.std.proofs.lemmas.List.Elements.{All-append, All-cons, All-nil, All-push}
use Rattle.std.proofs.lemmas.Option.{none-some, same_Some}
use Rattle.gh_base.specs.declared.ids.Serial.{Serial}
use Rattle.gh_base.specs.declared.kind.Kind.{Kind}
use Rattle.gh_base.specs.declared.kind.Kind.TheVariants as kind
use Rattle.gh_base.specs.declared.limits.TheConstants.{PARTITION_UNITS}
use Rattle.gh_model.specs.declared.change.Change.{Change}
use Rattle.gh_model.specs.declared.change.Change.TheVariants.{PutCapability, DropCapability, RevokeCapability, AddObject, SetStage, Retire, Reclaim, GiveQuota, AddExtent, MovePages, PutMapping, DropMapping, SetBell, ConfigureQueue, PutMessage, DropMessage, EmptyQueue, Exit, Ring, SetPages, AddPartition, AddRoot, SetRoom, FillSlot, AddCpu, AddLink}
use Rattle.gh_model.specs.declared.rows.ObjectRow.{ObjectRow}
use Rattle.gh_model.specs.declared.rows.PartitionRow.{PartitionRow}
use Rattle.gh_model.specs.declared.state.State.{State}
use Rattle.gh_model.specs.Changes.{boot_object, boot_partition, changed, changed_all, given_back, serial_of, extent_parent, new_partitions, with_cost, with_counters, with_quota, with_stage}
use Rattle.gh_model.specs.Rows.{change_row, is_object, is_partition, object_row}
use Rattle.gh_model.specs.Small.{HasCost, IsSmall, IsSmallQuota}
use Rattle.gh_model.specs.Units.{given_by, given_units, is_given_by, lives_in, object_cost, partition_quota, used_by, used_units}
use Rattle.gh_model.proofs.FittingLemmas.{given_more, moved_pages, used_more}
use Rattle.gh_model.proofs.SumLemmas.{all_change, all_found, all_without, given_change, given_without, part, used_change, used_without}

-- small sums and pages, small quotas, and objects that cost units
pub record AreSmall (s : State) : Type 0 where
  pub small : IsSmall s
  pub quotas : All IsSmallQuota s.partitions
  pub costs : All HasCost s.objects

-- what a change needs so that the sums stay small: only pages, a new object, a quota and a queue's
-- room raise them
abbrev pub IsModest : State → Change → Type 0
IsModest s (AddObject row) = (used_units s row.partition.0 + row.cost < 65536) × (1 ≤ row.cost)
IsModest s (SetPages count) = count < 65536
IsModest s (AddPartition quota) =
    (used_units s s.next_serial + 1 < 65536) × (quota ≤ PARTITION_UNITS) × ((p : ℕ) → given_units s p + quota < 65536)
IsModest s (GiveQuota partition quota) =
    (quota ≤ PARTITION_UNITS)
    × ((row : PartitionRow) → find (is_partition partition.0) s.partitions ≡ Some row → given_units s row.parent.0 + quota < 65536)
IsModest s (ConfigureQueue queue depth size cost) =
    (1 ≤ cost) × ((row : ObjectRow) → object_row s queue.0 ≡ Some row → used_units s row.partition.0 + cost ≤ 65536)
IsModest s _ = ⊤

-- the same objects, partitions and number of pages
same_small : (s new : State) → new.objects ≡ s.objects → new.partitions ≡ s.partitions → length new.holders ≡ length s.holders → AreSmall s → AreSmall new
same_small s new objects partitions pages h = record {
  small = record {
    used = λ p. subst (λ (rows : List ObjectRow). used_by rows p < 65536) (sym objects) (h.small.used p);
    given = λ p. subst (λ (rows : List PartitionRow). given_by rows p < 65536) (sym partitions) (h.small.given p);
    pages = omega (arith, pages, h.small.pages);
  };
  quotas = subst (λ (rows : List PartitionRow). All IsSmallQuota rows) (sym partitions) h.quotas;
  costs = subst (λ (rows : List ObjectRow). All HasCost rows) (sym objects) h.costs;
}

-- an object's row is another, of the same partition and cost
recast_small : (s new : State) (test : ObjectRow → Bool) (change : ObjectRow → ObjectRow)
    → ((p : ℕ) (row : ObjectRow) → part (lives_in p) object_cost (change row) ≤ part (lives_in p) object_cost row + 0)
    → ((row : ObjectRow) → HasCost row → HasCost (change row))
    → new.objects ≡ change_row test change s.objects → new.partitions ≡ s.partitions → new.holders ≡ s.holders
    → AreSmall s → AreSmall new
recast_small s new test change parts stays objects partitions holders h = record {
  small = record {
    used = λ p. subst (λ (rows : List ObjectRow). used_by rows p < 65536) (sym objects) (omega (arith, used_change test change s.objects p 0 (λ row found. parts p row), h.small.used p));
    given = λ p. subst (λ (rows : List PartitionRow). given_by rows p < 65536) (sym partitions) (h.small.given p);
    pages = subst (λ (pages : List Serial). length pages < 65536) (sym holders) h.small.pages;
  };
  quotas = subst (λ (rows : List PartitionRow). All IsSmallQuota rows) (sym partitions) h.quotas;
  costs = subst (λ (rows : List ObjectRow). All HasCost rows) (sym objects) (all_change HasCost test change s.objects stays h.costs);
}

-- an object more

used_here : (here : Bool) (objects : List ObjectRow) (row : ObjectRow) (p : ℕ) → lives_in p row ≡ here
    → used_by objects row.partition.0 + row.cost < 65536 → used_by objects p < 65536
    → used_by objects p + (if here then row.cost else 0) < 65536
used_here true objects row p is room small =
    let same : row.partition.0 ≡ p = eqb-true row.partition.0 p is in
    subst (λ (n : ℕ). used_by objects n + row.cost < 65536) same room
used_here false objects row p is room small = omega (arith, small)

given_new : (k : Kind) (partitions : List PartitionRow) (serial parent : Serial) (p : ℕ) → given_by (partitions ++ new_partitions k serial parent) p ≤ given_by partitions p
given_new kind.Partition partitions serial parent p = omega (arith, given_more partitions (record { serial = serial; parent = parent; quota = 0 }) p)
given_new kind.Cspace partitions serial parent p = subst (λ (rows : List PartitionRow). given_by rows p ≤ given_by partitions p) (sym (append-nil partitions)) (omega arith)
given_new kind.Space partitions serial parent p = subst (λ (rows : List PartitionRow). given_by rows p ≤ given_by partitions p) (sym (append-nil partitions)) (omega arith)
given_new kind.Extent partitions serial parent p = subst (λ (rows : List PartitionRow). given_by rows p ≤ given_by partitions p) (sym (append-nil partitions)) (omega arith)
given_new kind.Bell partitions serial parent p = subst (λ (rows : List PartitionRow). given_by rows p ≤ given_by partitions p) (sym (append-nil partitions)) (omega arith)
given_new kind.Queue partitions serial parent p = subst (λ (rows : List PartitionRow). given_by rows p ≤ given_by partitions p) (sym (append-nil partitions)) (omega arith)

quotas_new : (k : Kind) (serial parent : Serial) → All IsSmallQuota (new_partitions k serial parent)
quotas_new kind.Partition serial parent = All-cons IsSmallQuota (record { serial = serial; parent = parent; quota = 0 }) [] (omega arith) (All-nil IsSmallQuota)
quotas_new kind.Cspace serial parent = All-nil IsSmallQuota
quotas_new kind.Space serial parent = All-nil IsSmallQuota
quotas_new kind.Extent serial parent = All-nil IsSmallQuota
quotas_new kind.Bell serial parent = All-nil IsSmallQuota
quotas_new kind.Queue serial parent = All-nil IsSmallQuota

object_small : (s : State) (row : ObjectRow) → IsModest s (AddObject row) → AreSmall s → AreSmall (changed s (AddObject row))
object_small s row modest h = record {
  small = record {
    used = λ p. omega (arith, used_more s.objects row p, used_here (lives_in p row) s.objects row p refl modest.0 (h.small.used p));
    given = λ p. omega (arith, given_new row.kind s.partitions row.serial row.partition p, h.small.given p);
    pages = h.small.pages;
  };
  quotas = All-append IsSmallQuota s.partitions (new_partitions row.kind row.serial row.partition) h.quotas (quotas_new row.kind row.serial row.partition);
  costs = All-push HasCost s.objects row h.costs modest.1;
}

-- a partition's quota

given_one : (here : Bool) (old quota : ℕ) → (if here then quota else 0) ≤ (if here then old else 0) + (if here then quota else 0)
given_one true old quota = omega arith
given_one false old quota = omega arith

given_room : (here : Bool) (s : State) (row : PartitionRow) (quota p : ℕ) → is_given_by p row ≡ here
    → given_units s row.parent.0 + quota < 65536 → given_units s p < 65536
    → given_units s p + (if here then quota else 0) < 65536
given_room true s row quota p is room small =
    let same : row.parent.0 ≡ p = eqb-true row.parent.0 p is in
    subst (λ (n : ℕ). given_units s n + quota < 65536) same room
given_room false s row quota p is room small = omega (arith, small)

-- another quota gives its parent at most that many units more
abbrev GivesMore : ℕ → ℕ → ℕ → PartitionRow → Type 0
GivesMore quota p more row = part (is_given_by p) partition_quota (with_quota quota row) ≤ part (is_given_by p) partition_quota row + more

module _ (s : State) (partition : Serial) (quota : ℕ) (h : AreSmall s) where
  given_behind : (found : Option PartitionRow) → find (is_partition partition.0) s.partitions ≡ found
      → ((row : PartitionRow) → found ≡ Some row → given_units s row.parent.0 + quota < 65536)
      → (p : ℕ) → given_by (change_row (is_partition partition.0) (with_quota quota) s.partitions) p < 65536
  given_behind None is room p =
      omega (arith, given_change (is_partition partition.0) (with_quota quota) s.partitions p 0 (λ row found. absurd (none-some row (sym is ∙ found))), h.small.given p)
  given_behind (Some row) is room p =
      omega (
        arith,
        given_change (is_partition partition.0) (with_quota quota) s.partitions p (if is_given_by p row then quota else 0)
            (λ other found. subst (GivesMore quota p (if is_given_by p row then quota else 0)) (same_Some row other (sym is ∙ found))
            (given_one (is_given_by p row) row.quota quota)),
        given_room (is_given_by p row) s row quota p refl (room row refl) (h.small.given p),
      )

  quota_small : IsModest s (GiveQuota partition quota) → AreSmall (changed s (GiveQuota partition quota))
  quota_small modest = record {
    small = record { used = h.small.used; given = given_behind (find (is_partition partition.0) s.partitions) refl modest.1; pages = h.small.pages };
    quotas = all_change IsSmallQuota (is_partition partition.0) (with_quota quota) s.partitions (λ row is. modest.0) h.quotas;
    costs = h.costs;
  }

-- a queue's room

used_one : (here : Bool) (old cost : ℕ) → 1 ≤ old → 1 ≤ cost → (if here then cost else 0) ≤ (if here then old else 0) + (if here then cost - 1 else 0)
used_one true old cost some more = omega (arith, some, more)
used_one false old cost some more = omega arith

used_room : (here : Bool) (s : State) (row : ObjectRow) (cost p : ℕ) → lives_in p row ≡ here → 1 ≤ cost
    → used_units s row.partition.0 + cost ≤ 65536 → used_units s p < 65536
    → used_units s p + (if here then cost - 1 else 0) < 65536
used_room true s row cost p is more room small =
    let same : row.partition.0 ≡ p = eqb-true row.partition.0 p is in
    let here : used_units s p + cost ≤ 65536 = subst (λ (n : ℕ). used_units s n + cost ≤ 65536) same room in
    omega (arith, here, more)
used_room false s row cost p is more room small = omega (arith, small)

-- another cost uses at most that many units more
abbrev UsesMore : ℕ → ℕ → ℕ → ObjectRow → Type 0
UsesMore cost p more row = part (lives_in p) object_cost (with_cost cost row) ≤ part (lives_in p) object_cost row + more

module _ (s : State) (queue : Serial) (depth size cost : ℕ) (h : AreSmall s) where
  used_behind : (found : Option ObjectRow) → object_row s queue.0 ≡ found → 1 ≤ cost
      → ((row : ObjectRow) → found ≡ Some row → used_units s row.partition.0 + cost ≤ 65536)
      → (p : ℕ) → used_by (change_row (is_object queue.0) (with_cost cost) s.objects) p < 65536
  used_behind None is more room p =
      omega (arith, used_change (is_object queue.0) (with_cost cost) s.objects p 0 (λ row found. absurd (none-some row (sym is ∙ found))), h.small.used p)
  used_behind (Some row) is more room p =
      omega (
        arith,
        used_change (is_object queue.0) (with_cost cost) s.objects p (if lives_in p row then cost - 1 else 0)
            (λ other found. subst (UsesMore cost p (if lives_in p row then cost - 1 else 0)) (same_Some row other (sym is ∙ found))
            (used_one (lives_in p row) row.cost cost (all_found HasCost (is_object queue.0) s.objects row is h.costs) more)),
        used_room (lives_in p row) s row cost p refl more (room row refl) (h.small.used p),
      )

  room_small : IsModest s (ConfigureQueue queue depth size cost) → AreSmall (changed s (ConfigureQueue queue depth size cost))
  room_small modest = record {
    small = record { used = used_behind (object_row s queue.0) refl modest.0 modest.1; given = h.small.given; pages = h.small.pages };
    quotas = h.quotas;
    costs = all_change HasCost (is_object queue.0) (with_cost cost) s.objects (λ row is. modest.0) h.costs;
  }

-- an object goes
reclaim_small : (s : State) (object : Serial) → AreSmall s → AreSmall (changed s (Reclaim object))
reclaim_small s object h = record {
  small = record {
    used = λ p. omega (arith, used_without (is_object object.0) s.objects p, h.small.used p);
    given = λ p. omega (arith, given_without (is_partition object.0) s.partitions p, h.small.given p);
    pages = omega (arith, length-map s.holders (given_back object.0 (extent_parent s.extents object.0)), h.small.pages);
  };
  quotas = all_without IsSmallQuota (is_partition object.0) s.partitions h.quotas;
  costs = all_without HasCost (is_object object.0) s.objects h.costs;
}

-- the machine gets its pages
pages_small : (s : State) (count : ℕ) → IsModest s (SetPages count) → AreSmall s → AreSmall (changed s (SetPages count))
pages_small s count modest h = record {
  small = record { used = h.small.used; given = h.small.given; pages = omega (arith, length-replicate count (serial_of 0), modest) };
  quotas = h.quotas;
  costs = h.costs;
}

-- a partition of the boot
partition_small : (s : State) (quota : ℕ) → IsModest s (AddPartition quota) → AreSmall s → AreSmall (changed s (AddPartition quota))
partition_small s quota modest h =
    let object : ObjectRow = boot_object s kind.Partition s.next_serial 1 in
    let row : PartitionRow = boot_partition s.next_serial quota in
    record {
      small = record {
        used = λ p. omega (arith, used_more s.objects object p, used_here (lives_in p object) s.objects object p refl modest.0 (h.small.used p));
        given = λ p. omega (arith, given_more s.partitions row p, modest.2 p);
        pages = h.small.pages;
      };
      quotas = All-push IsSmallQuota s.partitions row h.quotas modest.1;
      costs = All-push HasCost s.objects object h.costs (omega arith);
    }

-- a modest change keeps the sums small
pub change_small : (s : State) (change : Change) → IsModest s change → AreSmall s → AreSmall (changed s change)
change_small s (AddObject row) modest h = object_small s row modest h
change_small s (GiveQuota partition quota) modest h = quota_small s partition quota h modest
change_small s (ConfigureQueue queue depth size cost) modest h = room_small s queue depth size cost h modest
change_small s (SetStage object stage) modest h =
    recast_small s (changed s (SetStage object stage)) (is_object object.0) (with_stage stage) (λ p row. omega arith) (λ row some. some) refl refl refl h
change_small s (Retire object seen) modest h =
    recast_small s (changed s (Retire object seen)) (is_object object.0) (with_counters seen) (λ p row. omega arith) (λ row some. some) refl refl refl h
change_small s (Reclaim object) modest h = reclaim_small s object h
change_small s (MovePages first count holder) modest h =
    same_small s (changed s (MovePages first count holder)) refl refl (moved_pages (nat_le (first + count) (length s.holders)) first count holder s.holders refl) h
change_small s (PutCapability row) modest h = same_small s (changed s (PutCapability row)) refl refl refl h
change_small s (DropCapability cspace slot) modest h = same_small s (changed s (DropCapability cspace slot)) refl refl refl h
change_small s (RevokeCapability cspace slot) modest h = same_small s (changed s (RevokeCapability cspace slot)) refl refl refl h
change_small s (AddExtent row) modest h = same_small s (changed s (AddExtent row)) refl refl refl h
change_small s (PutMapping row) modest h = same_small s (changed s (PutMapping row)) refl refl refl h
change_small s (DropMapping row) modest h = same_small s (changed s (DropMapping row)) refl refl refl h
change_small s (SetBell row) modest h = same_small s (changed s (SetBell row)) refl refl refl h
change_small s (PutMessage queue message) modest h = same_small s (changed s (PutMessage queue message)) refl refl refl h
change_small s (DropMessage queue) modest h = same_small s (changed s (DropMessage queue)) refl refl refl h
change_small s (EmptyQueue queue) modest h = same_small s (changed s (EmptyQueue queue)) refl refl refl h
change_small s (Exit cpu) modest h = same_small s (changed s (Exit cpu)) refl refl refl h
change_small s Ring modest h = same_small s (changed s Ring) refl refl refl h
change_small s (SetPages count) modest h = pages_small s count modest h
change_small s (AddPartition quota) modest h = partition_small s quota modest h
change_small s (AddRoot row) modest h =
    same_small s (changed s (AddRoot row)) refl refl (length-replicate (length s.holders) row.serial) h
change_small s (SetRoom queue depth size) modest h = same_small s (changed s (SetRoom queue depth size)) refl refl refl h
change_small s (FillSlot row) modest h = same_small s (changed s (FillSlot row)) refl refl refl h
change_small s (AddCpu row) modest h = same_small s (changed s (AddCpu row)) refl refl refl h
change_small s (AddLink row) modest h = same_small s (changed s (AddLink row)) refl refl refl h

-- each of the changes is modest when its turn comes
abbrev pub AreModest : State → List Change → Type 0
AreModest s [] = ⊤
AreModest s (change ∷ others) = IsModest s change × AreModest (changed s change) others

-- modest changes keep the sums small
pub changes_small : (s : State) (changes : List Change) → AreModest s changes → AreSmall s → AreSmall (changed_all s changes)
changes_small s [] modest h = h
changes_small s (change ∷ others) modest h = changes_small (changed s change) others modest.1 (change_small s change modest.0 h)
