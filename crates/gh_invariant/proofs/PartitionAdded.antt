-- A partition of the boot, which lives in itself and has its quota from no other, leaves objects,
-- rows of their kinds and units fit.
use Rattle.std.proofs.Common.{◌≡◌, ◌+◌, ◌≤◌, ◌<◌, ◌∙◌, ◌&&◌, ◌==◌, ◌++◌, ℕ, Bool, true, false, List, [], ◌∷◌, refl, subst, sym, ap, arith, IsTrue, None, Some, find, nat_le, if◌then◌else◌}
use Rattle.std.specs.Prelude.{count_by}
use Rattle.std.proofs.lemmas.Bool.{and_from, eq-eqb, eqb-true, le-leb}
use Rattle.std.proofs.lemmas.Bool.Decides.{nat_tests}
use Rattle.std.proofs.lemmas.List.Sums.{sum_by_push}
use Rattle.gh_base.specs.declared.kind.Kind.TheVariants as kind
use Rattle.gh_base.specs.declared.limits.TheConstants.{PARTITION_UNITS}
use Rattle.gh_model.specs.Boot.{boot_object, is_of_kind, serial_of}
use Rattle.gh_model.specs.Changes.{boot_partition}
use Rattle.gh_model.specs.QueueCalls.{one_if}
use Rattle.gh_model.specs.Rows.{is_bell, is_object, is_partition, is_queue}
use Rattle.gh_model.specs.Units.{given_by, row_quota, used_by}
use Rattle.gh_model.specs.declared.rows.ObjectRow.{ObjectRow}
use Rattle.gh_model.specs.declared.rows.PartitionRow.{PartitionRow}
use Rattle.gh_model.specs.declared.state.State.{State}
use Rattle.gh_invariant.specs.Lives.{cost_fits, lives_as, lives_under, quota_fits}
use Rattle.gh_invariant.specs.Premises.{MayAddPartition}
use Rattle.gh_invariant.specs.Valid.{IsValidTo, KindRowsFit, ObjectsFit, UnitsFit}
use Rattle.gh_invariant.proofs.Counting.{all_by, all_push, count_push, find_push_new, find_push_other, unfound}
use Rattle.gh_invariant.proofs.ObjectsFit.{add_keeps_objects, lives_more}
use Rattle.gh_invariant.proofs.RoomFor.{few_cspaces, few_partitions, no_row_by}
use Rattle.gh_invariant.proofs.RowsTested.{all_pinned}
use Rattle.gh_invariant.proofs.UnitsBeside.{quota_stays}
use Rattle.gh_invariant.proofs.UnitsFit.{cost_staged}
use Rattle.gh_invariant.proofs.UnitsMoved.{given_sum, quota_in, used_push}

-- no partition above 0 gave a quota of the boot
not_given : (n quota : ℕ) → 0 < n → (if 0 == n then quota else 0) ≡ 0
not_given n quota above = not_by (0 == n) (grind (arith, nat_tests))
  where
    not_by : (here : Bool) → here ≡ false → (if here then quota else 0) ≡ 0
    not_by true is = absurd (let never : ⊥ = cc in never)
    not_by false is = refl

and_true : (b : Bool) → (b && true) ≡ b
and_true true = refl
and_true false = refl

none_now : (n : ℕ) (b : Bool) → n ≡ n + one_if (b && false)
none_now n true = (let none : one_if false ≡ 0 = refl in omega arith)
none_now n false = (let none : one_if false ≡ 0 = refl in omega arith)

one_now : {R : Type 0} (p : R → Bool) (rows : List R) (row : R)
    → count_by p (rows ++ row ∷ []) ≡ count_by p rows + one_if (p row && true)
one_now p rows row =
    count_push p rows row ∙ ap (λ (b : Bool). count_by p rows + one_if b) (sym (and_true (p row)))

module _ (last : ℕ) (s : State) (quota : ℕ) (valid : IsValidTo last s)
    (may : MayAddPartition s quota) where
  -- the partition as an object, and its row
  abbrev pub object : ObjectRow
  object = boot_object s kind.Partition s.next_serial 1

  abbrev pub row : PartitionRow
  row = boot_partition s.next_serial quota

  pub unmade : find (is_object s.next_serial) s.objects ≡ None
  unmade = unfound (is_object s.next_serial) s.objects
      (valid.objects.later s.next_serial (omega arith))

  no_row : find (is_partition s.next_serial) s.partitions ≡ None
  no_row =
      no_row_by (is_partition s.next_serial) s.partitions (find (is_object s.next_serial) s.objects)
      kind.Partition unmade
      (let each : count_by (is_partition s.next_serial) s.partitions
      ≡ one_if (lives_as s.objects s.next_serial kind.Partition) =
      valid.rows.partitions s.next_serial in omega arith)

  pub made : find (is_object s.next_serial) (s.objects ++ object ∷ []) ≡ Some object
  made = find_push_new (is_object s.next_serial) s.objects object unmade
      (eq-eqb s.next_serial s.next_serial refl)

  given_now : (n : ℕ) → 0 < n → given_by (s.partitions ++ row ∷ []) n ≡ given_by s.partitions n
  given_now n above =
      omega (
        arith,
        given_sum (s.partitions ++ row ∷ []) n,
        given_sum s.partitions n,
        sum_by_push
            (quota_in n) s.partitions row,
        not_given n quota above,
      )

  quota_within : (n : ℕ) (here : Bool) → 0 < n → (s.next_serial == n) ≡ here
      → used_by s.objects n + (if here then 1 else 0) + given_by s.partitions n
      ≤ row_quota (find (is_partition n) (s.partitions ++ row ∷ []))
  quota_within n true above is =
      let same : s.next_serial ≡ n = eqb-true s.next_serial n is in
      let none : find (is_partition n) s.partitions ≡ None =
      subst (λ (m : ℕ). find (is_partition m) s.partitions ≡ None) same no_row in
      let old : row_quota (find (is_partition n) s.partitions) ≡ 0 = ap row_quota none in
      let new : row_quota (find (is_partition n) (s.partitions ++ row ∷ [])) ≡ quota =
      ap row_quota (find_push_new (is_partition n) s.partitions row none is) in
      omega (arith, valid.units.within n above, may.some)
  quota_within n false above is =
      let same : row_quota (find (is_partition n) (s.partitions ++ row ∷ []))
      ≡ row_quota (find (is_partition n) s.partitions) =
      ap row_quota (find_push_other (is_partition n) s.partitions row is) in
      omega (arith, valid.units.within n above, may.some)

  -- units
  pub units_now : UnitsFit (s.objects ++ object ∷ []) (s.partitions ++ row ∷ []) s.extents
  units_now = record {
    within = λ n above.
        omega (
          arith,
          used_push s.objects object n,
          given_now n above,
          quota_within n
              (s.next_serial == n) above refl,
        );
    quotas = all_push (quota_fits (s.objects ++ object ∷ [])) s.partitions row
        (all_by (quota_fits s.objects) (quota_fits (s.objects ++ object ∷ [])) s.partitions
        (quota_stays s.objects object) valid.units.quotas)
        (and_from _ _ small_test
        (ap (lives_under s.next_serial) made ∙ eq-eqb s.next_serial s.next_serial refl));
    costs = all_push (cost_fits (s.partitions ++ row ∷ []) s.extents) s.objects object
        (all_pinned (cost_fits s.partitions s.extents)
        (cost_fits (s.partitions ++ row ∷ []) s.extents) (is_object s.next_serial) s.objects
        (valid.objects.once s.next_serial)
        (λ one is fits.
        absurd (let none : find (is_object s.next_serial) s.objects ≡ None =
        unmade in let never : ⊥ = cc in never))
        (λ one other fits.
        rw (find_push_other (is_partition one.serial.0) s.partitions row
        (turned one.serial.0 other)) fits) valid.units.costs)
        (cost_staged (s.partitions ++ row ∷ []) s.extents object (omega arith) refl);
  }
    where
      small_test : IsTrue (nat_le quota PARTITION_UNITS)
      small_test = le-leb quota PARTITION_UNITS may.small

      turned : (n : ℕ) → (n == s.next_serial) ≡ false → (s.next_serial == n) ≡ false
      turned n other = grind (arith, nat_tests)

  -- objects
  pub objects_now : ObjectsFit (s.next_serial + 1) (s.objects ++ object ∷ [])
  objects_now =
      add_keeps_objects s.next_serial s.objects object refl valid.objects
      (ap (is_of_kind kind.Partition) made)
      (few_partitions s kind.Partition may.room valid.objects.partitions)
      (few_cspaces s kind.Partition may.room valid.objects.cspaces)

  -- the rows of each kind
  pub rows_now : KindRowsFit (s.objects ++ object ∷ []) (s.partitions ++ row ∷ []) s.bells s.queues
      s.extents
  rows_now =
      let more = lives_more s.next_serial s.objects object refl valid.objects in
      record {
        partitions = λ n.
            omega (
              arith,
              one_now (is_partition n) s.partitions row,
              valid.rows.partitions n,
              more n kind.Partition,
            );
        bells = λ n.
            omega (
              arith,
              none_now (count_by (is_bell n) s.bells) (s.next_serial == n),
              valid.rows.bells n,
              more n kind.Bell,
            );
        queues = λ n.
            omega (
              arith,
              none_now (count_by (is_queue n) s.queues) (s.next_serial == n),
              valid.rows.queues n,
              more n kind.Queue,
            );
        extents = λ n. omega (arith, valid.rows.extents n, more n kind.Extent);
      }
