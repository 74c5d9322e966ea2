-- There is room for an object of a kind, and an object that isn't made has no row of its kind.
use Rattle.std.proofs.Common.{◌≡◌, ◌+◌, ◌≤◌, ◌<◌, ◌==◌, ℕ, Bool, true, false, List, refl, arith, Option, Some, None, find, nat_le}
use Rattle.std.specs.Prelude.{count_by}
use Rattle.std.proofs.lemmas.Bool.{leb-false}
use Rattle.gh_base.specs.Kind.{kind_number}
use Rattle.gh_base.specs.declared.kind.Kind.{Kind}
use Rattle.gh_base.specs.declared.kind.Kind.TheVariants as kind
use Rattle.gh_base.specs.declared.limits.TheConstants.{CSPACES, PARTITIONS}
use Rattle.gh_model.specs.Boot.{is_of_kind}
use Rattle.gh_model.specs.ObjectCalls.{is_full}
use Rattle.gh_model.specs.QueueCalls.{one_if}
use Rattle.gh_model.specs.declared.rows.ObjectRow.{ObjectRow}
use Rattle.gh_model.specs.declared.state.State.{State}
use Rattle.gh_invariant.specs.Lives.{kind_total}
use Rattle.gh_invariant.proofs.Counting.{unfound}

-- there is room for an object of the kind

room_for : (most total : ℕ) → nat_le most total ≡ false → total + one_if true ≤ most
room_for most total room =
    let fewer : total < most = leb-false most total room in
    let one : one_if true ≡ 1 = refl in
    omega arith

room_as : (most total : ℕ) → total ≤ most → total + one_if false ≤ most
room_as most total within = (let none : one_if false ≡ 0 = refl in omega arith)

pub few_partitions : (s : State) (k : Kind) → is_full s k ≡ false
    → kind_total s.objects kind.Partition ≤ PARTITIONS
    → kind_total s.objects kind.Partition + one_if (kind_number k == kind_number kind.Partition)
    ≤ PARTITIONS
few_partitions s kind.Partition room within =
    room_for PARTITIONS (kind_total s.objects kind.Partition) room
few_partitions s kind.Cspace room within =
    room_as PARTITIONS (kind_total s.objects kind.Partition) within
few_partitions s kind.Space room within =
    room_as PARTITIONS (kind_total s.objects kind.Partition) within
few_partitions s kind.Extent room within =
    room_as PARTITIONS (kind_total s.objects kind.Partition) within
few_partitions s kind.Bell room within =
    room_as PARTITIONS (kind_total s.objects kind.Partition) within
few_partitions s kind.Queue room within =
    room_as PARTITIONS (kind_total s.objects kind.Partition) within

pub few_cspaces : (s : State) (k : Kind) → is_full s k ≡ false
    → kind_total s.objects kind.Cspace ≤ CSPACES
    → kind_total s.objects kind.Cspace + one_if (kind_number k == kind_number kind.Cspace) ≤ CSPACES
few_cspaces s kind.Cspace room within = room_for CSPACES (kind_total s.objects kind.Cspace) room
few_cspaces s kind.Partition room within = room_as CSPACES (kind_total s.objects kind.Cspace) within
few_cspaces s kind.Space room within = room_as CSPACES (kind_total s.objects kind.Cspace) within
few_cspaces s kind.Extent room within = room_as CSPACES (kind_total s.objects kind.Cspace) within
few_cspaces s kind.Bell room within = room_as CSPACES (kind_total s.objects kind.Cspace) within
few_cspaces s kind.Queue room within = room_as CSPACES (kind_total s.objects kind.Cspace) within

-- an object that isn't made has no row of its kind
pub no_row_by : {R : Type 0} (p : R → Bool) (rows : List R) (found : Option ObjectRow) (k : Kind)
    → found ≡ None → count_by p rows ≤ one_if (is_of_kind k found) → find p rows ≡ None
no_row_by p rows None k none few =
    unfound p rows (let zero : one_if (is_of_kind k None) ≡ 0 = refl in omega arith)
no_row_by p rows (Some row) k none few = absurd (let never : ⊥ = cc in never)
