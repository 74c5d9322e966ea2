-- Each change leaves an object of a kind with the one row of its kind, and other serials without
-- one.
use Rattle.std.proofs.Common.{◌≡◌, ◌+◌, ◌≤◌, ◌∙◌, ◌&&◌, ◌==◌, ◌^◌, ◌-◌, ℕ, Bool, true, false, List, [], ◌∷◌, ◌++◌, refl, subst, sym, ap, arith, IsTrue, None, find}
use Rattle.std.specs.Prelude.{count_by}
use Rattle.std.proofs.lemmas.Bool.{eqb-true}
use Rattle.std.proofs.lemmas.List.Sums.{sum_by-append}
use Rattle.gh_base.specs.Kind.{kind_number}
use Rattle.gh_base.specs.declared.ids.Serial.{Serial}
use Rattle.gh_base.specs.declared.kind.Kind.{Kind}
use Rattle.gh_base.specs.declared.kind.Kind.TheVariants as kind
use Rattle.gh_model.specs.Changes.{new_bells, new_partitions, new_queues, without}
use Rattle.gh_model.specs.QueueCalls.{one_if}
use Rattle.gh_model.specs.Rows.{is_bell, is_extent, is_object, is_partition, is_queue}
use Rattle.gh_model.specs.declared.rows.BellRow.{BellRow}
use Rattle.gh_model.specs.declared.rows.ExtentRow.{ExtentRow}
use Rattle.gh_model.specs.declared.rows.ObjectRow.{ObjectRow}
use Rattle.gh_model.specs.declared.rows.PartitionRow.{PartitionRow}
use Rattle.gh_model.specs.declared.rows.QueueRow.{QueueRow}
use Rattle.gh_invariant.specs.Lives.{lives_as}
use Rattle.gh_invariant.specs.Valid.{KindRowsFit, ObjectsFit}
use Rattle.gh_invariant.proofs.Counting.{count_cons, count_push, count_unfound, one_true}
use Rattle.gh_invariant.proofs.ObjectsFit.{lives_gone, lives_left, lives_more}
use Rattle.gh_invariant.proofs.RowsLeft.{count_gone, count_left}
use Rattle.gh_invariant.proofs.RowsTested.{other_number}

-- the row of a new object, where it is of the kind

one_row : {R : Type 0} (p : R → Bool) (row : R) → count_by p (row ∷ []) ≡ one_if (p row && true)
one_row p row =
    let sum : count_by p (row ∷ []) ≡ one_if (p row) + count_by p [] = count_cons p row [] in
    let none : count_by p [] ≡ 0 = refl in
    omega (arith, ap one_if (and_true (p row)))
  where
    and_true : (b : Bool) → (b && true) ≡ b
    and_true true = refl
    and_true false = refl

no_row : (b : Bool) → 0 ≡ one_if (b && false)
no_row true = refl
no_row false = refl

new_partition : (k : Kind) (serial parent : Serial) (n : ℕ)
    → count_by (is_partition n) (new_partitions k serial parent)
    ≡ one_if ((serial.0 == n) && (kind_number k == kind_number kind.Partition))
new_partition kind.Partition serial parent n =
    one_row (is_partition n) (record { serial = serial; parent = parent; quota = 0 })
new_partition kind.Cspace serial parent n = no_row (serial.0 == n)
new_partition kind.Space serial parent n = no_row (serial.0 == n)
new_partition kind.Extent serial parent n = no_row (serial.0 == n)
new_partition kind.Bell serial parent n = no_row (serial.0 == n)
new_partition kind.Queue serial parent n = no_row (serial.0 == n)

new_bell : (k : Kind) (serial : Serial) (n : ℕ)
    → count_by (is_bell n) (new_bells k serial)
    ≡ one_if ((serial.0 == n) && (kind_number k == kind_number kind.Bell))
new_bell kind.Bell serial n =
    one_row (is_bell n) (record { serial = serial; flags = 0; enable = 2 ^ 64 - 1; ack = 0 })
new_bell kind.Partition serial n = no_row (serial.0 == n)
new_bell kind.Cspace serial n = no_row (serial.0 == n)
new_bell kind.Space serial n = no_row (serial.0 == n)
new_bell kind.Extent serial n = no_row (serial.0 == n)
new_bell kind.Queue serial n = no_row (serial.0 == n)

new_queue : (k : Kind) (serial : Serial) (n : ℕ)
    → count_by (is_queue n) (new_queues k serial)
    ≡ one_if ((serial.0 == n) && (kind_number k == kind_number kind.Queue))
new_queue kind.Queue serial n =
    one_row (is_queue n) (record { serial = serial; depth = 0; size = 0; messages = [] })
new_queue kind.Partition serial n = no_row (serial.0 == n)
new_queue kind.Cspace serial n = no_row (serial.0 == n)
new_queue kind.Space serial n = no_row (serial.0 == n)
new_queue kind.Extent serial n = no_row (serial.0 == n)
new_queue kind.Bell serial n = no_row (serial.0 == n)

module _ (next : ℕ) (objects : List ObjectRow) (row : ObjectRow) (serial : row.serial.0 ≡ next)
    (fit : ObjectsFit next objects) where
  -- a kind's rows, with the new object's where it is of the kind
  rows_more : {R : Type 0} (p : R → Bool) (k : Kind) (n : ℕ) (rows new : List R)
      → count_by p new ≡ one_if ((row.serial.0 == n) && (kind_number row.kind == kind_number k))
      → count_by p rows ≡ one_if (lives_as objects n k)
      → count_by p (rows ++ new) ≡ one_if (lives_as (objects ++ row ∷ []) n k)
  rows_more p k n rows new added each =
      let sum : count_by p (rows ++ new) ≡ count_by p rows + count_by p new =
      sum_by-append _ rows new in
      omega (arith, lives_more next objects row serial fit n k)

  extents_beside : (n : ℕ) (extents : List ExtentRow)
      → count_by (is_extent n) extents ≤ one_if (lives_as objects n kind.Extent)
      → count_by (is_extent n) extents ≤ one_if (lives_as (objects ++ row ∷ []) n kind.Extent)
  extents_beside n extents each =
      omega (arith, lives_more next objects row serial fit n kind.Extent)

  -- a new object has the row of its kind
  pub add_keeps_rows : (partitions : List PartitionRow) (bells : List BellRow)
      (queues : List QueueRow) (extents : List ExtentRow)
      → KindRowsFit objects partitions bells queues extents
      → KindRowsFit (objects ++ row ∷ [])
      (partitions ++ new_partitions row.kind row.serial row.partition)
      (bells ++ new_bells row.kind row.serial) (queues ++ new_queues row.kind row.serial) extents
  add_keeps_rows partitions bells queues extents rows = record {
    partitions =
        λ n. rows_more (is_partition n) kind.Partition n partitions
        (new_partitions row.kind row.serial row.partition)
        (new_partition row.kind row.serial row.partition n) (rows.partitions n);
    bells = λ n.
        rows_more (is_bell n) kind.Bell n bells (new_bells row.kind row.serial)
        (new_bell row.kind row.serial n) (rows.bells n);
    queues = λ n.
        rows_more (is_queue n) kind.Queue n queues (new_queues row.kind row.serial)
        (new_queue row.kind row.serial n) (rows.queues n);
    extents = λ n. extents_beside n extents (rows.extents n);
  }

-- an object is reclaimed with the row of its kind

module _ (objects : List ObjectRow) (object : ℕ) where
  rows_left : {R : Type 0} (p q : R → Bool) (k : Kind) (n : ℕ) (rows : List R) (here : Bool)
      → (n == object) ≡ here → (here ≡ true → (row : R) → q row ≡ false → p row ≡ false)
      → (here ≡ false → (row : R) → q row ≡ true → p row ≡ false)
      → count_by p rows ≡ one_if (lives_as objects n k)
      → count_by p (without q rows) ≡ one_if (lives_as (without (is_object object) objects) n k)
  rows_left p q k n rows true is same apart each =
      let none : one_if (lives_as (without (is_object object) objects) n k) ≡ 0 =
      ap one_if (ap (λ (m : ℕ). lives_as (without (is_object object) objects) m k)
      (eqb-true n object is) ∙ lives_gone objects object k) in
      count_gone p q rows (same refl) ∙ sym none
  rows_left p q k n rows false other same apart each =
      count_left p q rows (apart refl) ∙ each
      ∙ sym (ap one_if (lives_left objects object n k other))

  same_number : (a n : ℕ) → (n == object) ≡ true → (a == object) ≡ false → (a == n) ≡ false
  same_number a n is fails = rw (eqb-true n object is) fails

  extents_left : (n : ℕ) (extents : List ExtentRow) (here : Bool) → (n == object) ≡ here
      → count_by (is_extent n) extents ≤ one_if (lives_as objects n kind.Extent)
      → count_by (is_extent n) (without (is_extent object) extents)
      ≤ one_if (lives_as (without (is_object object) objects) n kind.Extent)
  extents_left n extents true is each =
      let none : count_by (is_extent n) (without (is_extent object) extents) ≡ 0 =
      count_gone (is_extent n) (is_extent object) extents
      (λ row fails. same_number row.serial.0 n is fails) in
      omega arith
  extents_left n extents false other each =
      let same : count_by (is_extent n) (without (is_extent object) extents)
      ≡ count_by (is_extent n) extents =
      count_left (is_extent n) (is_extent object) extents
      (λ row is. other_number row.serial.0 n object other is) in
      let lives : one_if (lives_as (without (is_object object) objects) n kind.Extent)
      ≡ one_if (lives_as objects n kind.Extent) =
      ap one_if (lives_left objects object n kind.Extent other) in
      omega arith

  -- its rows go
  pub reclaim_keeps_rows : (partitions : List PartitionRow) (bells : List BellRow)
      (queues : List QueueRow) (extents : List ExtentRow)
      → KindRowsFit objects partitions bells queues extents
      → KindRowsFit (without (is_object object) objects) (without (is_partition object) partitions)
      (without (is_bell object) bells) (without (is_queue object) queues)
      (without (is_extent object) extents)
  reclaim_keeps_rows partitions bells queues extents rows = record {
    partitions =
        λ n. rows_left (is_partition n) (is_partition object) kind.Partition n partitions
        (n == object) refl (λ is row fails. same_number row.serial.0 n is fails)
        (λ other row is. other_number row.serial.0 n object other is) (rows.partitions n);
    bells = λ n.
        rows_left (is_bell n) (is_bell object) kind.Bell n bells (n == object) refl
        (λ is row fails. same_number row.serial.0 n is fails)
        (λ other row is. other_number row.serial.0 n object other is) (rows.bells n);
    queues = λ n.
        rows_left (is_queue n) (is_queue object) kind.Queue n queues (n == object) refl
        (λ is row fails. same_number row.serial.0 n is fails)
        (λ other row is. other_number row.serial.0 n object other is) (rows.queues n);
    extents = λ n. extents_left n extents (n == object) refl (rows.extents n);
  }

-- rows that count as before, of objects that live as before
pub same_rows : (old new : List ObjectRow) (partitions partitions_now : List PartitionRow)
    (bells bells_now : List BellRow) (queues queues_now : List QueueRow) (extents : List ExtentRow)
    → ((n : ℕ) (k : Kind) → lives_as new n k ≡ lives_as old n k)
    → ((n : ℕ) → count_by (is_partition n) partitions_now ≡ count_by (is_partition n) partitions)
    → ((n : ℕ) → count_by (is_bell n) bells_now ≡ count_by (is_bell n) bells)
    → ((n : ℕ) → count_by (is_queue n) queues_now ≡ count_by (is_queue n) queues)
    → KindRowsFit old partitions bells queues extents
    → KindRowsFit new partitions_now bells_now queues_now extents
same_rows old new partitions partitions_now bells bells_now queues queues_now extents lives
    same_partitions same_bells same_queues rows = record {
      partitions =
          λ n. same_partitions n ∙ rows.partitions n ∙ sym (ap one_if (lives n kind.Partition));
      bells = λ n. same_bells n ∙ rows.bells n ∙ sym (ap one_if (lives n kind.Bell));
      queues = λ n. same_queues n ∙ rows.queues n ∙ sym (ap one_if (lives n kind.Queue));
      extents = λ n.
          (let same : one_if (lives_as new n kind.Extent) ≡ one_if (lives_as old n kind.Extent) =
          ap one_if (lives n kind.Extent) in omega (arith, rows.extents n));
    }

extent_once : (old most : ℕ) (here : Bool) → old ≤ most → (here ≡ true → (old ≡ 0) × (most ≡ 1))
    → old + one_if here ≤ most
extent_once old most true within new =
    let one : one_if true ≡ 1 = refl in
    let both : (old ≡ 0) × (most ≡ 1) = new refl in
    let none : old ≡ 0 = both.0 in
    let some : most ≡ 1 = both.1 in
    omega arith
extent_once old most false within new = (let none : one_if false ≡ 0 = refl in omega arith)

-- an extent that has no span gets one
pub span_keeps_rows : (objects : List ObjectRow) (partitions : List PartitionRow)
    (bells : List BellRow) (queues : List QueueRow) (extents : List ExtentRow) (row : ExtentRow)
    → IsTrue (lives_as objects row.serial.0 kind.Extent)
    → find (is_extent row.serial.0) extents ≡ None
    → KindRowsFit objects partitions bells queues extents
    → KindRowsFit objects partitions bells queues (extents ++ row ∷ [])
span_keeps_rows objects partitions bells queues extents row lives none rows = record {
  partitions = rows.partitions;
  bells = rows.bells;
  queues = rows.queues;
  extents = λ n.
      rw (count_push (is_extent n) extents row)
      (extent_once (count_by (is_extent n) extents) (one_if (lives_as objects n kind.Extent))
      (is_extent n row) (rows.extents n) (now n));
}
  where
    now : (n : ℕ) → is_extent n row ≡ true
        → (count_by (is_extent n) extents ≡ 0) × (one_if (lives_as objects n kind.Extent) ≡ 1)
    now n is =
        let same : row.serial.0 ≡ n = eqb-true row.serial.0 n is in (
          subst (λ (m : ℕ). count_by (is_extent m) extents ≡ 0) same
              (count_unfound (is_extent row.serial.0) extents none),
          subst
              (λ (m : ℕ). one_if (lives_as objects m kind.Extent) ≡ 1) same
              (one_true (lives_as objects row.serial.0 kind.Extent) lives),
        )
