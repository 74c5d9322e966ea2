-- Lines that fit keep the state fitting, and what follows for the code.
use Rattle.std.proofs.Common.{◌≡◌, ◌==◌, ◌+◌, ◌-◌, ◌*◌, ◌<◌, ◌≤◌, ◌∙◌, ℕ, suc, get_or, drop-cons, Bool, true, false, List, [], ◌∷◌, ◌++◌, length, take, drop, filter, find, map, fold, refl, subst, sym, ap, arith, inl, inr, IsTrue, IsSome, Option, Some, None, cond, eqb, if◌then◌else◌}
use Rattle.std.specs.Prelude.{count_by, sum_by, is_some, nat_le, nat_lt, replicate}
use Rattle.std.specs.Option.{option_map_or, option_or}
use Rattle.std.proofs.lemmas.Bool.{cases_Bool, cases_lt, eqb-true, leb-true}
use Rattle.std.proofs.lemmas.Bool.Decides.{nat_tests}
use Rattle.std.proofs.lemmas.List.{append-nil, length-append, length-take, length-drop, length-replicate, map-append}
use Rattle.std.proofs.lemmas.List.Elements.{filter-append}
use Rattle.std.proofs.lemmas.List.Folds.{find-append}
use Rattle.std.proofs.lemmas.List.Sums.{sum_by-append, sum_by-cons}
use Rattle.gh_base.specs.Kind.{kind_number}
use Rattle.gh_base.specs.declared.access.Access.{Access}
use Rattle.gh_base.specs.declared.ids.Serial.{Serial}
use Rattle.gh_base.specs.declared.ids.VmId.{VmId}
use Rattle.gh_base.specs.declared.kind.Kind.{Kind}
use Rattle.gh_base.specs.declared.kind.Kind.TheVariants as kind
use Rattle.gh_base.specs.declared.limits.TheConstants.{MACHINE_PAGES, MESSAGE_BYTES, OBJECT_INDICES, PARTITIONS, PARTITION_UNITS, QUEUE_DEPTH, VMS}
use Rattle.gh_model.specs.declared.boot_line.BootLine.{BootLine}
use Rattle.gh_model.specs.declared.boot_line.BootLine.TheVariants.{Pages, Partition, Cspace, Addrspace, Doorbell, RootExtent, Extent, Msgqueue, Map, Cap, Vm, Rm, Link}
use Rattle.gh_model.specs.declared.rows.CpuRow.{CpuRow}
use Rattle.gh_model.specs.declared.rows.ExtentRow.{ExtentRow}
use Rattle.gh_model.specs.declared.rows.ObjectRow.{ObjectRow}
use Rattle.gh_model.specs.declared.rows.PartitionRow.{PartitionRow}
use Rattle.gh_model.specs.declared.state.State.{State}
use Rattle.gh_model.specs.Boot.{after_line, boot_fits, boot_object, boot_state, empty_state, extent_fits, first_page, has_units, is_complete, is_vm, kind_count, line_fits, lines_fit, link_fits, move_pages, queue_cost, serial_of, vm_count}
use Rattle.gh_model.specs.Changes.{boot_partition, moved_run}
use Rattle.gh_model.specs.Fitting.{FitObjects, IsFitting, left_by, left_in, object_units, partitions_among, span_end}
use Rattle.gh_model.specs.Rows.{cpu_row, is_cpu, is_extent, is_partition}
use Rattle.gh_model.specs.Units.{free_units, given_by, is_given_by, lives_in, object_cost, partition_quota, row_quota, used_by}
use Rattle.gh_model.proofs.CpuRows.{empty_numbered, found_counts, line_numbered, one_if}
use Rattle.gh_model.proofs.RunLists.{count_snoc}
use Rattle.gh_model.proofs.Tests.{and-first, and-second, at_most}

pub below : (a b : ℕ) → IsTrue (nat_lt a b) → a < b
below a b h = grind (arith, nat_tests)

-- the sum over the kept of a list with a row more
sum_more : {R : Type 0} (keep : R → Bool) (count : R → ℕ) (rows : List R) (row : R)
    → sum_by (λ x. x) (map count (filter keep (rows ++ row ∷ [])))
    ≡ sum_by (λ x. x) (map count (filter keep rows)) + sum_by (λ x. x) (map count (filter keep (row ∷ [])))
sum_more {R} keep count rows row =
    ap (λ (kept : List R). sum_by (λ x. x) (map count kept)) (filter-append keep rows (row ∷ []))
    ∙ ap (sum_by (λ x. x)) (map-append count (filter keep rows) (filter keep (row ∷ [])))
    ∙ sum_by-append (λ x. x) (map count (filter keep rows)) (map count (filter keep (row ∷ [])))

-- units in use

cost_by : (here : Bool) (row : ObjectRow) → sum_by (λ x. x) (map object_cost (if here then row ∷ [] else [])) ≡ (if here then row.cost else 0)
cost_by true row = omega arith
cost_by false row = refl

-- an object more raises the units in use by its cost in its partition
pub used_more : (objects : List ObjectRow) (row : ObjectRow) (p : ℕ)
    → used_by (objects ++ row ∷ []) p ≡ used_by objects p + (if lives_in p row then row.cost else 0)
used_more objects row p =
    sum_more (lives_in p) object_cost objects row ∙ ap (λ (n : ℕ). used_by objects p + n) (cost_by (lives_in p row) row)

itself : (n : ℕ) → eqb n n ≡ true
itself n = grind (arith, nat_tests)

whole_cost : (here : Bool) (cost : ℕ) → here ≡ true → (if here then cost else 0) ≡ cost
whole_cost true cost is = refl
whole_cost false cost is = absurd (let never : ⊥ = cc in never)

at_most_cost : (here : Bool) (cost : ℕ) → (if here then cost else 0) ≤ cost
at_most_cost true cost = omega arith
at_most_cost false cost = omega arith

used_few : (objects : List ObjectRow) (row : ObjectRow) (p : ℕ)
    → row.cost ≤ object_units → used_by objects p ≤ object_units * length objects
    → used_by (objects ++ row ∷ []) p ≤ object_units * length (objects ++ row ∷ [])
used_few objects row p small few =
    omega (arith, used_more objects row p, at_most_cost (lives_in p row) row.cost, length-append objects (row ∷ []), small, few)

-- units given

quota_by : (here : Bool) (row : PartitionRow) → sum_by (λ x. x) (map partition_quota (if here then row ∷ [] else [])) ≤ row.quota
quota_by true row = omega arith
quota_by false row = omega arith

pub given_more : (partitions : List PartitionRow) (row : PartitionRow) (p : ℕ)
    → given_by (partitions ++ row ∷ []) p ≤ given_by partitions p + row.quota
given_more partitions row p =
    omega (arith, sum_more (is_given_by p) partition_quota partitions row, quota_by (is_given_by p row) row)

-- a small quota is added
pub quota_more : (partitions : List PartitionRow) (row : PartitionRow) (n : ℕ)
    → row_quota (find (is_partition n) partitions) ≤ PARTITION_UNITS → row.quota ≤ PARTITION_UNITS
    → row_quota (find (is_partition n) (partitions ++ row ∷ [])) ≤ PARTITION_UNITS
quota_more partitions row n old new =
    rw find-append (either (find (is_partition n) partitions) (eqb row.serial.0 n) old)
  where
    either : (o : Option PartitionRow) (b : Bool) → row_quota o ≤ PARTITION_UNITS → row_quota (option_or o (cond b (Some row) None)) ≤ PARTITION_UNITS
    either None true old = new
    either None false old = old
    either (Some first) b old = old

-- what is left

-- less of each, less of all
sum_less : {X : Type 0} (f g : X → ℕ) (xs : List X) → ((x : X) → f x ≤ g x) → sum_by f xs ≤ sum_by g xs
sum_less f g [] less = omega arith
sum_less f g (x ∷ xs) less =
    omega (arith, sum_by-cons f x xs, sum_by-cons g x xs, less x, sum_less f g xs less)

-- and fewer of all, where one that is found has fewer
sum_fewer : {X : Type 0} (f g : X → ℕ) (p : X → Bool) (xs : List X) (found : X) → find p xs ≡ Some found
    → ((x : X) → f x ≤ g x) → ((x : X) → p x ≡ true → f x + 1 ≤ g x) → sum_by f xs + 1 ≤ sum_by g xs
sum_fewer f g p [] found is less fewer = absurd (let never : ⊥ = cc in never)
sum_fewer f g p (x ∷ xs) found is less fewer =
    elim (cases_Bool (p x)) as (λ _. sum_by f (x ∷ xs) + 1 ≤ sum_by g (x ∷ xs)) [
      | inl here ↦ omega (arith, sum_by-cons f x xs, sum_by-cons g x xs, fewer x here, sum_less f g xs less)
      | inr other ↦ omega (arith, sum_by-cons f x xs, sum_by-cons g x xs, less x, sum_fewer f g p xs found (rw other at is) less fewer)
    ]

-- an object more leaves no more
left_less : (objects : List ObjectRow) (row : ObjectRow) (partition : PartitionRow) → left_by (objects ++ row ∷ []) partition ≤ left_by objects partition
left_less objects row partition = omega (arith, used_more objects row partition.serial.0)

-- and less in its own partition, where some is left
left_fewer : (objects : List ObjectRow) (row : ObjectRow) (partition : PartitionRow)
    → 1 ≤ row.cost → used_by objects row.partition.0 + 1 ≤ PARTITION_UNITS → is_partition row.partition.0 partition ≡ true
    → left_by (objects ++ row ∷ []) partition + 1 ≤ left_by objects partition
left_fewer objects row partition some free is =
    let same : partition.serial.0 ≡ row.partition.0 = eqb-true partition.serial.0 row.partition.0 is in
    rw same (omega (arith, used_here, some, free))
  where
    used_here : used_by (objects ++ row ∷ []) row.partition.0 ≡ used_by objects row.partition.0 + row.cost
    used_here = used_more objects row row.partition.0 ∙ ap (λ (n : ℕ). used_by objects row.partition.0 + n) (whole_cost (lives_in row.partition.0 row) row.cost (itself row.partition.0))

-- the objects with one more of a boot line
abbrev with_object : State → Kind → ℕ → ℕ → List ObjectRow
with_object s k partition cost = s.objects ++ boot_object s k partition cost ∷ []

-- whether an object counts as a partition
abbrev is_counted : ObjectRow → Bool
is_counted row = kind_number row.kind == kind_number kind.Partition

-- the partitions with one more
abbrev with_partition : State → ℕ → List PartitionRow
with_partition s quota = s.partitions ++ boot_partition s.next_serial quota ∷ []

-- there is a row where units are left
quota_found : (o : Option PartitionRow) → 1 ≤ row_quota o → (row : PartitionRow) × (o ≡ Some row)
quota_found None some = absurd (let none : row_quota None ≡ 0 = refl in omega arith)
quota_found (Some row) some = (row, refl)

module _ (s : State) (h : IsFitting s) where
  -- there are at most 1,024 objects
  pub few_objects : length s.objects ≤ OBJECT_INDICES
  few_objects = omega (arith, h.objects.left, h.objects.few)

  pub few_serials : s.next_serial ≤ OBJECT_INDICES + 1
  few_serials = omega (arith, h.objects.serials, few_objects)

  -- with fewer partitions than may be there is a serial for an object more
  pub partition_serial : kind_count s kind.Partition < PARTITIONS → s.next_serial ≤ OBJECT_INDICES
  partition_serial fewer = omega (arith, h.objects.left, h.objects.serials, h.objects.rows, fewer)

  module _ (partition cost : ℕ) (has : IsTrue (has_units s partition cost)) (some : 1 ≤ cost) where
    free : cost ≤ free_units s partition
    free = at_most _ _ (and-second _ _ has)

    -- the cost is within the most units of a quota
    pub units_within : used_by s.objects partition + cost ≤ PARTITION_UNITS
    units_within = omega (arith, free, some, h.objects.quotas partition)

    home : (row : PartitionRow) × (find (is_partition partition) s.partitions ≡ Some row)
    home = quota_found (find (is_partition partition) s.partitions) (omega (arith, free, some))

    left_some : (row : PartitionRow) → is_partition partition row ≡ true → 0 + 1 ≤ left_by s.objects row
    left_some row is =
        let same : row.serial.0 ≡ partition = eqb-true row.serial.0 partition is in
        rw same (omega (arith, units_within, some))

    -- and there is a serial for it
    pub units_serial : s.next_serial ≤ OBJECT_INDICES
    units_serial =
        let more : sum_by (λ (row : PartitionRow). 0) s.partitions + 1 ≤ left_in s.objects s.partitions =
        sum_fewer (λ (row : PartitionRow). 0) (left_by s.objects) (is_partition partition) s.partitions home.0 home.1 (λ row. omega arith) left_some in
        omega (arith, more, h.objects.left, h.objects.few, h.objects.serials)

    -- an object of another kind than a partition
    object_more : (k : Kind) → cost ≤ object_units → partitions_among (with_object s k partition cost) ≡ partitions_among s.objects + 0
        → FitObjects (s.next_serial + 1) (with_object s k partition cost) (s.partitions ++ [])
    object_more k small other =
        let row : ObjectRow = boot_object s k partition cost in
        let longer : length (with_object s k partition cost) ≡ length s.objects + 1 = length-append s.objects (row ∷ []) in
        let less : left_in (with_object s k partition cost) s.partitions + 1 ≤ left_in s.objects s.partitions =
        sum_fewer (left_by (with_object s k partition cost)) (left_by s.objects) (is_partition partition) s.partitions home.0 home.1
        (left_less s.objects row) (λ one is. left_fewer s.objects row one some (omega (arith, units_within, some)) is) in
        subst (λ (partitions : List PartitionRow). FitObjects (s.next_serial + 1) (with_object s k partition cost) partitions) (sym (append-nil s.partitions)) (record {
          serials = omega (arith, longer, h.objects.serials);
          rows = omega (arith, other, h.objects.rows);
          few = h.objects.few;
          quotas = h.objects.quotas;
          given = h.objects.given;
          used = λ p. used_few s.objects row p small (h.objects.used p);
          left = omega (arith, longer, less, h.objects.left);
        })

  -- a partition, which lives in itself
  partition_more : (quota : ℕ) → quota ≤ PARTITION_UNITS → kind_count s kind.Partition < PARTITIONS
      → FitObjects (s.next_serial + 1) (with_object s kind.Partition s.next_serial 1) (with_partition s quota)
  partition_more quota small fewer =
      let object : ObjectRow = boot_object s kind.Partition s.next_serial 1 in
      let row : PartitionRow = boot_partition s.next_serial quota in
      let objects : List ObjectRow = with_object s kind.Partition s.next_serial 1 in
      let longer : length (with_object s kind.Partition s.next_serial 1) ≡ length s.objects + 1 = length-append s.objects (object ∷ []) in
      let rows : length (with_partition s quota) ≡ length s.partitions + 1 = length-append s.partitions (row ∷ []) in
      let counted : partitions_among (with_object s kind.Partition s.next_serial 1) ≡ partitions_among s.objects + 1 =
      count_snoc is_counted s.objects object in
      let less : left_in (with_object s kind.Partition s.next_serial 1) s.partitions ≤ left_in s.objects s.partitions =
      sum_less (left_by objects) (left_by s.objects) s.partitions (left_less s.objects object) in
      record {
        serials = omega (arith, longer, h.objects.serials);
        rows = omega (arith, counted, rows, h.objects.rows);
        few = omega (arith, rows, h.objects.rows, fewer);
        quotas = λ p. quota_more s.partitions row p (h.objects.quotas p) small;
        given = λ p. omega (arith, rows, given_more s.partitions row p, h.objects.given p, small);
        used = λ p. used_few s.objects object p (omega arith) (h.objects.used p);
        left = omega (arith, longer, rows, less, own, sum_by-append (left_by objects) s.partitions (row ∷ []), h.objects.left);
      }
    where
      lives : used_by (with_object s kind.Partition s.next_serial 1) s.next_serial ≡ used_by s.objects s.next_serial + 1
      lives =
          used_more s.objects (boot_object s kind.Partition s.next_serial 1) s.next_serial
          ∙ ap (λ (n : ℕ). used_by s.objects s.next_serial + n) (whole_cost (eqb s.next_serial s.next_serial) 1 (itself s.next_serial))

      own : sum_by (left_by (with_object s kind.Partition s.next_serial 1)) (boot_partition s.next_serial quota ∷ []) + 1 ≤ PARTITION_UNITS
      own = omega (arith, lives)

-- the span of an extent more lies in the machine
span_more : (extents : List ExtentRow) (row : ExtentRow) (n pages : ℕ)
    → span_end (find (is_extent n) extents) ≤ pages → row.first.0 + row.count ≤ pages → span_end (find (is_extent n) (extents ++ row ∷ [])) ≤ pages
span_more extents row n pages old new =
    rw find-append (either (find (is_extent n) extents) (eqb row.serial.0 n) old)
  where
    either : (o : Option ExtentRow) (b : Bool) → span_end o ≤ pages → span_end (option_or o (cond b (Some row) None)) ≤ pages
    either None true old = new
    either None false old = old
    either (Some first) b old = old

-- a run of pages changes its holder, and no page is lost
pub moved_length : (first count : ℕ) (holder : Serial) (holders : List Serial) → first + count ≤ length holders → length (move_pages first count holder holders) ≡ length holders
moved_length first count holder holders within =
    let front : length (take first holders) ≡ first = length-take first holders ∙ (let least = within in omega arith) in
    let run : length (replicate count holder) ≡ count = length-replicate count holder in
    let rest : length (drop (first + count) holders) ≡ length holders - (first + count) = length-drop (first + count) holders in
    let both : length (take first holders ++ replicate count holder) ≡ length (take first holders) + length (replicate count holder) = length-append (take first holders) (replicate count holder) in
    let all : length (move_pages first count holder holders) ≡ length (take first holders ++ replicate count holder) + length (drop (first + count) holders) =
    length-append (take first holders ++ replicate count holder) (drop (first + count) holders) in
    omega arith

-- whether it is one of the machine or none
pub moved_pages : (fits : Bool) (first count : ℕ) (holder : Serial) (holders : List Serial) → nat_le (first + count) (length holders) ≡ fits
    → length (if fits then move_pages first count holder holders else holders) ≡ length holders
moved_pages true first count holder holders is = moved_length first count holder holders (leb-true (first + count) (length holders) is)
moved_pages false first count holder holders is = refl

-- a queue costs at most 17 units
small_queue : (depth size : ℕ) → depth ≤ QUEUE_DEPTH → size ≤ MESSAGE_BYTES → queue_cost depth size ≤ object_units
small_queue depth size few small = grind (arith)

pub queue_some : (depth size : ℕ) → 1 ≤ queue_cost depth size
queue_some depth size = omega arith

-- the new span is within the parent's
child_within : (s : State) (parent offset count access held_offset held_count pages : ℕ) (o : Option ExtentRow)
    → IsTrue (extent_fits s parent offset count access held_offset held_count o) → span_end o ≤ pages
    → option_map_or (λ (row : ExtentRow). row.first.0) o 0 + offset + count ≤ pages
child_within s parent offset count access held_offset held_count pages None fits within = absurd (let never : ⊥ = cc in never)
child_within s parent offset count access held_offset held_count pages (Some row) fits within =
    omega (arith, at_most (offset + count) row.count (and-second _ _ (and-first _ _ (and-first _ _ (and-first _ _ fits)))), within)

-- an extent line that fits a fitting state
pub record IsNewExtent (s : State) (line : BootLine) (parent : Serial) (offset count : ℕ) : Type 0 where
  pub partition : Serial
  pub access : Access
  pub held_offset : ℕ
  pub held_count : ℕ
  pub is : line ≡ Extent partition parent offset count access held_offset held_count
  pub fits : IsTrue (line_fits s line)
  pub fitting : IsFitting s

-- the span of its extent lies in the machine
pub extent_span : (s : State) (line : BootLine) (parent : Serial) (offset count : ℕ) → IsNewExtent s line parent offset count
    → first_page s parent.0 + offset + count ≤ length s.holders
extent_span s line parent offset count new =
    let fits : IsTrue (line_fits s (Extent new.partition parent offset count new.access new.held_offset new.held_count)) =
    subst (λ (l : BootLine). IsTrue (line_fits s l)) new.is new.fits in
    child_within s parent.0 offset count new.access.0 new.held_offset new.held_count (length s.holders) (find (is_extent parent.0) s.extents)
    (and-second _ _ fits) (new.fitting.spans parent.0)

-- a CPU that is there is a VM's of the eight, or the manager's
cpu_there : (o : Option CpuRow) → IsTrue (is_some o) → IsSome o
cpu_there None is = absurd (let never : ⊥ = cc in never)
cpu_there (Some row) is = cc

pub cpu_small : (s : State) (cpu : ℕ) → IsFitting s → IsTrue (is_some (cpu_row s cpu)) → cpu ≤ VMS
cpu_small s cpu h there =
    let counted : 1 ≤ count_by (is_cpu cpu) s.cpus = found_counts (is_cpu cpu) s.cpus (cpu_there (cpu_row s cpu) there) in
    elim (cases_lt (vm_count s) cpu) as (λ _. cpu ≤ VMS) [
      | inl beyond ↦ absurd (omega (arith, counted, h.numbered.beyond cpu beyond))
      | inr within ↦ omega (arith, within, h.vms)
    ]

-- a link's VM is one of the eight
pub link_small : (s : State) (vm extent request reply : ℕ) → IsFitting s → IsTrue (link_fits s vm extent request reply) → vm ≤ VMS
link_small s vm extent request reply h fits =
    cpu_small s vm h (and-second _ _ (and-first _ _ (and-first _ _ (and-first _ _ (and-first _ _ (and-first _ _ fits))))))

pub link_vm : (s : State) (line : BootLine) (vm : VmId) (extent request reply : Serial) → line ≡ Link vm extent request reply → IsTrue (line_fits s line) → IsFitting s → vm.0 ≤ VMS
link_vm s line vm extent request reply is fits h =
    link_small s vm.0 extent.0 request.0 reply.0 h (subst (λ (l : BootLine). IsTrue (line_fits s l)) is fits)

-- a line that fits keeps the state fitting
pub line_fitting : (s : State) (line : BootLine) → IsTrue (line_fits s line) → IsFitting s → IsFitting (after_line s line)
line_fitting s (Pages count) fits h = absurd (let never : ⊥ = cc in never)
line_fitting s (Partition quota) fits h = record {
  pages = h.pages;
  objects = partition_more s h quota (at_most quota PARTITION_UNITS (and-second _ _ (and-first _ _ fits))) (below (kind_count s kind.Partition) PARTITIONS (and-second _ _ fits));
  spans = h.spans;
  vms = h.vms;
  numbered = line_numbered s (Partition quota) fits h.numbered;
}
line_fitting s (Cspace partition) fits h = record {
  pages = h.pages;
  objects = object_more s h partition.0 4 (and-first _ _ fits) (omega arith) kind.Cspace (omega arith)
      (count_snoc is_counted s.objects (boot_object s kind.Cspace partition.0 4));
  spans = h.spans;
  vms = h.vms;
  numbered = line_numbered s (Cspace partition) fits h.numbered;
}
line_fitting s (Addrspace partition) fits h = record {
  pages = h.pages;
  objects = object_more s h partition.0 4 fits (omega arith) kind.Space (omega arith)
      (count_snoc is_counted s.objects (boot_object s kind.Space partition.0 4));
  spans = h.spans;
  vms = h.vms;
  numbered = line_numbered s (Addrspace partition) fits h.numbered;
}
line_fitting s (Doorbell partition) fits h = record {
  pages = h.pages;
  objects = object_more s h partition.0 1 fits (omega arith) kind.Bell (omega arith)
      (count_snoc is_counted s.objects (boot_object s kind.Bell partition.0 1));
  spans = h.spans;
  vms = h.vms;
  numbered = line_numbered s (Doorbell partition) fits h.numbered;
}
line_fitting s (RootExtent partition) fits h =
    let same : length (replicate (length s.holders) (serial_of s.next_serial)) ≡ length s.holders = length-replicate (length s.holders) (serial_of s.next_serial) in
    record {
      pages = omega (arith, same, h.pages);
      objects = object_more s h partition.0 1 (and-first _ _ fits) (omega arith) kind.Extent (omega arith)
          (count_snoc is_counted s.objects (boot_object s kind.Extent partition.0 1));
      spans = λ n. rw same (span_more s.extents _ n (length s.holders) (h.spans n) (omega arith));
      vms = h.vms;
      numbered = line_numbered s (RootExtent partition) fits h.numbered;
    }
line_fitting s (Extent partition parent offset count access held_offset held_count) fits h =
    let new : IsNewExtent s (Extent partition parent offset count access held_offset held_count) parent offset count = record {
      partition = partition;
      access = access;
      held_offset = held_offset;
      held_count = held_count;
      is = refl;
      fits = fits;
      fitting = h;
    } in
    let within : first_page s parent.0 + offset + count ≤ length s.holders =
    extent_span s (Extent partition parent offset count access held_offset held_count) parent offset count new in
    let first : ℕ = first_page s parent.0 + offset + held_offset in
    let same : length (moved_run (first_page s parent.0 + offset + held_offset) held_count (serial_of s.next_serial) s.holders) ≡ length s.holders =
    moved_pages (nat_le (first + held_count) (length s.holders)) first held_count (serial_of s.next_serial) s.holders refl in
    record {
      pages = omega (arith, same, h.pages);
      objects = object_more s h partition.0 1 (and-first _ _ (and-first _ _ fits)) (omega arith) kind.Extent (omega arith)
          (count_snoc is_counted s.objects (boot_object s kind.Extent partition.0 1));
      spans = λ n. rw same (span_more s.extents _ n (length s.holders) (h.spans n) within);
      vms = h.vms;
      numbered = line_numbered s (Extent partition parent offset count access held_offset held_count) fits h.numbered;
    }
line_fitting s (Msgqueue partition depth size) fits h =
    let few : depth ≤ QUEUE_DEPTH = at_most depth QUEUE_DEPTH (and-second _ _ (and-first _ _ (and-first _ _ (and-first _ _ fits)))) in
    let small : size ≤ MESSAGE_BYTES = at_most size MESSAGE_BYTES (and-second _ _ (and-first _ _ fits)) in
    let within : queue_cost depth size ≤ object_units = small_queue depth size few small in
    record {
      pages = h.pages;
      objects = object_more s h partition.0 (queue_cost depth size) (and-second _ _ fits) (queue_some depth size) kind.Queue within
          (count_snoc is_counted s.objects (boot_object s kind.Queue partition.0 (queue_cost depth size)));
      spans = h.spans;
      vms = h.vms;
      numbered = line_numbered s (Msgqueue partition depth size) fits h.numbered;
    }
line_fitting s (Map space extent base offset count access) fits h = record {
  pages = h.pages;
  objects = h.objects;
  spans = h.spans;
  vms = h.vms;
  numbered = line_numbered s (Map space extent base offset count access) fits h.numbered;
}
line_fitting s (Cap cspace slot object rights master) fits h = record {
  pages = h.pages;
  objects = h.objects;
  spans = h.spans;
  vms = h.vms;
  numbered = line_numbered s (Cap cspace slot object rights master) fits h.numbered;
}
line_fitting s (Vm cspace space) fits h =
    let row : CpuRow = record { cpu = record { 0 = vm_count s + 1 }; cspace = record { 0 = cspace.0 }; space = record { 0 = space.0 }; exited = false } in
    let more : vm_count (after_line s (Vm cspace space)) ≡ vm_count s + 1 =
    count_snoc is_vm s.cpus row ∙ ap (λ (n : ℕ). vm_count s + n) (one_if (nat_lt 0 (vm_count s + 1)) (grind (arith, nat_tests))) in
    record {
      pages = h.pages;
      objects = h.objects;
      spans = h.spans;
      vms = omega (arith, more, below (vm_count s) VMS (and-second _ _ fits));
      numbered = line_numbered s (Vm cspace space) fits h.numbered;
    }
line_fitting s (Rm cspace space partition) fits h =
    let row : CpuRow = record { cpu = record { 0 = 0 }; cspace = record { 0 = cspace.0 }; space = record { 0 = space.0 }; exited = false } in
    let same : vm_count (after_line s (Rm cspace space partition)) ≡ vm_count s + 0 = count_snoc is_vm s.cpus row in
    record {
      pages = h.pages;
      objects = h.objects;
      spans = h.spans;
      vms = omega (arith, same, h.vms);
      numbered = line_numbered s (Rm cspace space partition) fits h.numbered;
    }
line_fitting s (Link vm extent request reply) fits h = record {
  pages = h.pages;
  objects = h.objects;
  spans = h.spans;
  vms = h.vms;
  numbered = line_numbered s (Link vm extent request reply) fits h.numbered;
}

-- and so do lines that fit in turn
pub lines_fitting : (s : State) (lines : List BootLine) → IsTrue (lines_fit s lines) → IsFitting s → IsFitting (fold after_line s lines)
lines_fitting s [] fit h = h
lines_fitting s (line ∷ lines) fit h =
    lines_fitting (after_line s line) lines (and-second (line_fits s line) (lines_fit (after_line s line) lines) fit)
    (line_fitting s line (and-first (line_fits s line) (lines_fit (after_line s line) lines) fit) h)

-- so many pages, and nothing else
pub pages_fitting : (count : ℕ) → count ≤ MACHINE_PAGES → IsFitting (after_line empty_state (Pages count))
pages_fitting count few = record {
  pages = omega (arith, length-replicate count (serial_of 0), few);
  objects = record {
    serials = refl;
    rows = refl;
    few = omega arith;
    quotas = λ p. omega arith;
    given = λ p. (let none : given_by [] p ≡ 0 = refl in omega arith);
    used = λ p. (let none : used_by [] p ≡ 0 = refl in omega arith);
    left = (let none : left_in [] [] ≡ 0 = refl in omega arith);
  };
  spans = λ n. omega arith;
  vms = (let none : vm_count empty_state ≡ 0 = refl in omega arith);
  numbered = record { once = empty_numbered.once; beyond = empty_numbered.beyond };
}

-- the state before the first line
pub empty_fitting : IsFitting empty_state
empty_fitting = pages_fitting 0 (omega arith)

-- the state of a boot file
pub boot_fitting : (lines : List BootLine) → IsTrue (boot_fits lines) → IsFitting (boot_state lines)
boot_fitting [] fit = absurd (let never : ⊥ = cc in never)
boot_fitting (Pages count ∷ lines) fit =
    let both = and-first _ (is_complete (fold after_line (after_line empty_state (Pages count)) lines)) fit in
    lines_fitting (after_line empty_state (Pages count)) lines (and-second _ (lines_fit (after_line empty_state (Pages count)) lines) both)
    (pages_fitting count (at_most count MACHINE_PAGES (and-second _ _ (and-first _ _ both))))
boot_fitting (_ ∷ lines) fit = absurd (let never : ⊥ = cc in never)

-- the line that is next keeps it
pub next_fitting : (s t : State) (lines : List BootLine) (i : ℕ) (d : BootLine) → t ≡ after_line s (get_or lines i d)
    → i < length lines → IsTrue (lines_fit s (drop i lines)) → IsFitting s → IsFitting t
next_fitting s t lines i d made within fit h =
    let here : drop i lines ≡ get_or lines i d ∷ drop (suc i) lines = drop-cons lines i d within in
    subst (λ (u : State). IsFitting u) (sym made)
    (line_fitting s (get_or lines i d)
    (and-first (line_fits s (get_or lines i d)) (lines_fit (after_line s (get_or lines i d)) (drop (suc i) lines)) (subst (λ (ls : List BootLine). IsTrue (lines_fit s ls)) here fit)) h)
