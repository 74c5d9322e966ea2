-- Units stand once a boot partition is entered, which uses a unit of its own quota.
use Rattle.std.proofs.Common.{◌≡◌, ◌≢◌, ◌<◌, ◌≤◌, ◌+◌, ◌∙◌, ◌∷◌, ◌++◌, ℕ, List, [], Option, Some, None, refl, sym, ap, subst, arith, inl, inr, find}
use Rattle.std.specs.Option.{option_map}
use Rattle.std.proofs.lemmas.Bool.{cases_eq, cases_lt, eq-eqb, eqb-true, ne_eqb}
use Rattle.std.proofs.lemmas.List.Sums.{sum_by_push}
use Rattle.gh_base.specs.declared.kind.Kind.TheVariants as kind
use Rattle.gh_invariant.proofs.Counting.{find_push_new, find_push_other, found_passes, unfound}
use Rattle.gh_invariant.proofs.RoomFor.{no_row_by}
use Rattle.gh_invariant.proofs.UnitsMoved.{given_sum, quota_in, used_push}
use Rattle.gh_invariant.specs.Valid.{IsValidWithin}
use Rattle.gh_model.specs.Changes.{boot_object}
use Rattle.gh_model.specs.Changes.{boot_partition, serial_of}
use Rattle.gh_model.specs.Rows.{is_object, is_partition}
use Rattle.gh_model.specs.Units.{given_by, used_by}
use Rattle.gh_model.specs.declared.rows.ObjectRow.{ObjectRow}
use Rattle.gh_model.specs.declared.rows.PartitionRow.{PartitionRow}
use Rattle.gh_model.specs.declared.state.State.{State}
use Rattle.gh_parts.specs.ObjectChanges.{boot_account}
use Rattle.gh_parts.specs.Stands.{UnitsStand, account_of, is_account}
use Rattle.gh_parts.specs.declared.journal.Account.{Account}
use Rattle.gh_parts.proofs.StandsCost.{costs_not}
use Rattle.gh_parts.proofs.StandsQuota.{costs_in, counts_not}

-- no partition has serial 0
partition_some : (s : State) → IsValidWithin s → (x : ℕ) (row : PartitionRow)
    → find (is_partition x) s.partitions ≡ Some row → 0 < x
partition_some s valid x row is =
    elim (cases_lt 0 x) [
      | inl some ↦ some
      | inr none ↦
          let zero : x ≡ 0 = omega arith in
          let gone : find (is_partition x) s.partitions ≡ None =
          subst (λ (n : ℕ). find (is_partition n) s.partitions ≡ None) (sym zero)
          (no_row_by (is_partition 0) s.partitions (find (is_object 0) s.objects) kind.Partition
          (unfound (is_object 0) s.objects valid.objects.none) (omega (arith, valid.rows.partitions 0))) in
          absurd (let never : ⊥ = cc in never)
    ]

account_with : PartitionRow → ℕ → ℕ → Account
account_with row used given = record {
  partition = row.serial;
  parent = row.parent;
  units = record { quota = row.quota; used = used; given = given };
}

module _ (accounts : List Account) (s : State) (valid : IsValidWithin s) (quota : ℕ)
    (stand : UnitsStand accounts s.objects s.partitions)
    (unknown : find (is_partition s.next_serial) s.partitions ≡ None)
    (unused : used_by s.objects s.next_serial + given_by s.partitions s.next_serial ≤ 0) where
  abbrev serial : ℕ
  serial = s.next_serial

  abbrev object : ObjectRow
  object = boot_object s kind.Partition serial 1

  abbrev row : PartitionRow
  row = boot_partition serial quota

  abbrev objects : List ObjectRow
  objects = s.objects ++ object ∷ []

  abbrev partitions : List PartitionRow
  partitions = s.partitions ++ row ∷ []

  abbrev now : List Account
  now = accounts ++ boot_account (serial_of serial) quota ∷ []

  given_same : (x : ℕ) → 0 < x → given_by s.partitions x ≡ given_by partitions x
  given_same x above =
      omega (
        arith,
        given_sum partitions x,
        given_sum s.partitions x,
        sum_by_push (quota_in x) s.partitions row,
        counts_not x row (λ same. omega (arith, above)),
      )

  used_same : (x : ℕ) → x ≢ serial → used_by s.objects x ≡ used_by objects x
  used_same x apart = omega (arith, used_push s.objects object x, costs_not x object (λ same. apart (sym same)))

  used_here : 1 ≡ used_by objects serial
  used_here = omega (arith, used_push s.objects object serial, costs_in serial object refl, unused)

  Shown : ℕ → Type 0
  Shown x = find (is_account x) now ≡ option_map (account_of objects partitions) (find (is_partition x) partitions)

  shown_here : Shown serial
  unfolding Shown account_with
  shown_here =
      find_push_new (is_account serial) accounts (boot_account (serial_of serial) quota)
      (stand serial ∙ ap (option_map (account_of s.objects s.partitions)) unknown) (eq-eqb serial serial refl)
      ∙ ap (λ (n : ℕ). Some (account_with row n 0)) used_here
      ∙ ap (λ (n : ℕ). Some (account_with row (used_by objects serial) n))
      (let above : 0 < serial = valid.objects.some in
      let none : 0 ≡ given_by partitions serial = omega (arith, given_same serial above, unused) in none)
      ∙ ap (option_map (account_of objects partitions))
      (sym (find_push_new (is_partition serial) s.partitions row unknown (eq-eqb serial serial refl)))

  same_by : (x : ℕ) → x ≢ serial → (found : Option PartitionRow) → find (is_partition x) s.partitions ≡ found
      → option_map (account_of s.objects s.partitions) found ≡ option_map (account_of objects partitions) found
  unfolding account_with
  same_by x apart None is = refl
  same_by x apart (Some one) is =
      let same : one.serial.0 ≡ x =
      eqb-true one.serial.0 x (found_passes (is_partition x) s.partitions one is) in
      let above : 0 < x = partition_some s valid x one is in
      let used : used_by s.objects one.serial.0 ≡ used_by objects one.serial.0 =
      used_same one.serial.0 (λ also. apart (sym same ∙ also)) in
      let given : given_by s.partitions one.serial.0 ≡ given_by partitions one.serial.0 =
      given_same one.serial.0 (omega arith) in
      ap (λ (n : ℕ). Some (account_with one n (given_by s.partitions one.serial.0))) used
      ∙ ap (λ (n : ℕ). Some (account_with one (used_by objects one.serial.0) n)) given

  shown_there : (x : ℕ) → x ≢ serial → Shown x
  unfolding Shown
  shown_there x apart =
      find_push_other (is_account x) accounts (boot_account (serial_of serial) quota) (ne_eqb serial x (λ same. apart (sym same)))
      ∙ stand x
      ∙ same_by x apart (find (is_partition x) s.partitions) refl
      ∙ ap (option_map (account_of objects partitions))
      (sym (find_push_other (is_partition x) s.partitions row (ne_eqb serial x (λ same. apart (sym same)))))

  pub boot_units_now : UnitsStand now objects partitions
  unfolding Shown
  boot_units_now x =
      elim (cases_eq x serial) [
        | inl same ↦ subst Shown (sym same) shown_here
        | inr apart ↦ shown_there x apart
      ]
