-- Units stand once an object is removed: its partition has its units again, also those that it was
-- given.
use Rattle.std.proofs.Common.{◌≡◌, ◌≢◌, ◌≤◌, ◌+◌, ◌-◌, ◌∙◌, ◌==◌, ℕ, Bool, true, false, List, Option, Some, None, refl, sym, ap, subst, arith, inl, inr, find}
use Rattle.std.specs.Prelude.{IfSome, if◌then◌else◌}
use Rattle.std.specs.Option.{option_map}
use Rattle.std.proofs.lemmas.Bool.{cases_eq, eq-eqb, eqb-true, ne_eqb}
use Rattle.gh_base.specs.declared.ids.Serial.{Serial}
use Rattle.gh_invariant.proofs.ChangedRow.{find_past_change}
use Rattle.gh_invariant.proofs.Counting.{found_passes}
use Rattle.gh_invariant.proofs.RowsLeft.{find_gone, find_left}
use Rattle.gh_invariant.proofs.RowsTested.{other_number}
use Rattle.gh_invariant.proofs.Summing.{number_found}
use Rattle.gh_invariant.proofs.UnitsMoved.{cost_in, given_without, quota_in, used_without}
use Rattle.gh_model.proofs.ChangedRows.{find_changed}
use Rattle.gh_model.specs.Changes.{reclaim_object, without}
use Rattle.gh_model.specs.Rows.{change_row, is_object, is_partition}
use Rattle.gh_model.specs.Units.{given_by, row_quota, used_by}
use Rattle.gh_model.specs.declared.rows.ObjectRow.{ObjectRow}
use Rattle.gh_model.specs.declared.rows.PartitionRow.{PartitionRow}
use Rattle.gh_model.specs.declared.state.State.{State}
use Rattle.gh_parts.specs.Reclaims.{HasUnits, freeing, quota_of}
use Rattle.gh_parts.specs.Stands.{UnitsStand, account_of, is_account}
use Rattle.gh_parts.specs.declared.journal.Account.{Account}
use Rattle.gh_parts.specs.declared.parts.Parts.{Parts}
use Rattle.gh_parts.proofs.Leaving.{Leaves}
use Rattle.gh_parts.proofs.LeavingHome.{given_home, home_other, once}
use Rattle.gh_parts.proofs.StandsBells.{apart_serials}
use Rattle.gh_parts.proofs.StandsCost.{costs_not}
use Rattle.gh_parts.proofs.StandsQuota.{costs_in, counts_in, counts_not}

account_with : PartitionRow → ℕ → ℕ → Account
account_with row used given = record {
  partition = row.serial;
  parent = row.parent;
  units = record { quota = row.quota; used = used; given = given };
}

module _ (parts : Parts) (s : State) (object : Serial) (leaves : Leaves parts s object.0) where
  abbrev row : ObjectRow
  row = leaves.row

  abbrev home : ℕ
  home = row.partition.0

  abbrev after : State
  after = reclaim_object object s

  abbrev found : Option PartitionRow
  found = find (is_partition object.0) s.partitions

  abbrev quota : ℕ
  quota = row_quota found

  abbrev first : List Account
  first = without (is_account object.0) parts.journal.accounts

  abbrev accounts : List Account
  accounts = change_row (is_account home) (freeing row.cost quota) first

  home_apart : home ≢ object.0
  home_apart = home_other parts s object leaves

  -- what is used and what is given
  used_sum : (x : ℕ) → used_by after.objects x + cost_in x row ≡ used_by s.objects x
  used_sum x =
      subst (λ (one : Option ObjectRow). used_by after.objects x + number_found (cost_in x) one ≡ used_by s.objects x) leaves.found
      (used_without (is_object object.0) s.objects x (leaves.valid.objects.once object.0))

  quota_by : (x : ℕ) (one : Option PartitionRow) → found ≡ one
      → number_found (quota_in x) one ≡ (if home == x then row_quota one else 0)
  quota_by x None is = either (home == x) 0
    where
      either : (b : Bool) (n : ℕ) → n ≡ (if b then n else n)
      either true n = refl
      either false n = refl
  quota_by x (Some one) is =
      elim (cases_eq home x) [
        | inl same ↦
            counts_in x one (given_home parts s object leaves one is ∙ same)
            ∙ ap (λ (b : Bool). if b then one.quota else 0) (sym (eq-eqb home x same))
        | inr apart ↦
            counts_not x one (λ same. apart (sym (given_home parts s object leaves one is) ∙ same))
            ∙ ap (λ (b : Bool). if b then one.quota else 0) (sym (ne_eqb home x apart))
      ]

  given_sum : (x : ℕ) → given_by after.partitions x + (if home == x then quota else 0) ≡ given_by s.partitions x
  given_sum x =
      subst (λ (n : ℕ). given_by after.partitions x + n ≡ given_by s.partitions x) (quota_by x found refl)
      (given_without (is_partition object.0) s.partitions x (once parts s object leaves))

  given_here : given_by after.partitions home + quota ≡ given_by s.partitions home
  given_here =
      subst (λ (b : Bool). given_by after.partitions home + (if b then quota else 0) ≡ given_by s.partitions home)
      (eq-eqb home home refl) (given_sum home)

  given_there : (x : ℕ) → home ≢ x → given_by s.partitions x ≡ given_by after.partitions x
  given_there x apart =
      let sum : given_by after.partitions x + 0 ≡ given_by s.partitions x =
      subst (λ (b : Bool). given_by after.partitions x + (if b then quota else 0) ≡ given_by s.partitions x)
      (ne_eqb home x apart) (given_sum x) in
      omega arith

  used_here : used_by after.objects home + row.cost ≡ used_by s.objects home
  used_here = omega (arith, used_sum home, costs_in home row refl)

  used_there : (x : ℕ) → home ≢ x → used_by s.objects x ≡ used_by after.objects x
  used_there x apart = omega (arith, used_sum x, costs_not x row apart)

  -- the account tells the quota
  pub quota_told : quota_of (find (is_account object.0) parts.journal.accounts) ≡ quota
  quota_told = ap quota_of (leaves.stand.units object.0) ∙ by found
    where
      by : (one : Option PartitionRow)
          → quota_of (option_map (account_of s.objects s.partitions) one) ≡ row_quota one
      by None = refl
      by (Some one) = refl

  rows_left : (x : ℕ) → x ≢ object.0 → find (is_partition x) after.partitions ≡ find (is_partition x) s.partitions
  rows_left x apart =
      find_left (is_partition x) (is_partition object.0) s.partitions
      (λ one is. other_number one.serial.0 x object.0 (ne_eqb x object.0 apart) is)

  accounts_left : (x : ℕ) → x ≢ object.0 → find (is_account x) first ≡ find (is_account x) parts.journal.accounts
  accounts_left x apart =
      find_left (is_account x) (is_account object.0) parts.journal.accounts
      (λ one is. other_number one.partition.0 x object.0 (ne_eqb x object.0 apart) is)

  accounts_there : (x : ℕ) → x ≢ home → find (is_account x) accounts ≡ find (is_account x) first
  accounts_there x apart =
      find_past_change (is_account x) (is_account home) (freeing row.cost quota) first
      (λ account is. apart_serials home x account.partition.0 apart is)
      (λ account is. apart_serials home x account.partition.0 apart is)

  Shown : ℕ → Type 0
  Shown x = find (is_account x) accounts ≡ option_map (account_of after.objects after.partitions) (find (is_partition x) after.partitions)

  shown_gone : Shown object.0
  unfolding Shown
  shown_gone =
      accounts_there object.0 (λ same. home_apart (sym same))
      ∙ find_gone (is_account object.0) (is_account object.0) parts.journal.accounts (λ account fails. fails)
      ∙ ap (option_map (account_of after.objects after.partitions))
      (sym (find_gone (is_partition object.0) (is_partition object.0) s.partitions (λ one fails. fails)))

  freeing_is : (one : PartitionRow) → find (is_partition home) s.partitions ≡ Some one
      → freeing row.cost quota (account_of s.objects s.partitions one) ≡ account_of after.objects after.partitions one
  unfolding account_with
  freeing_is one is =
      let same : one.serial.0 ≡ home = eqb-true one.serial.0 home (found_passes (is_partition home) s.partitions one is) in
      let used : used_by s.objects one.serial.0 - row.cost ≡ used_by after.objects one.serial.0 =
      subst (λ (n : ℕ). used_by s.objects n - row.cost ≡ used_by after.objects n) (sym same) (omega (arith, used_here)) in
      let given : given_by s.partitions one.serial.0 - quota ≡ given_by after.partitions one.serial.0 =
      subst (λ (n : ℕ). given_by s.partitions n - quota ≡ given_by after.partitions n) (sym same) (omega (arith, given_here)) in
      ap (λ (n : ℕ). account_with one n (given_by s.partitions one.serial.0 - quota)) used
      ∙ ap (account_with one (used_by after.objects one.serial.0)) given

  freeing_by : (one : Option PartitionRow) → find (is_partition home) s.partitions ≡ one
      → option_map (freeing row.cost quota) (option_map (account_of s.objects s.partitions) one)
      ≡ option_map (account_of after.objects after.partitions) one
  freeing_by None is = refl
  freeing_by (Some one) is = ap Some (freeing_is one is)

  shown_home : Shown home
  unfolding Shown
  shown_home =
      find_changed (is_account home) (freeing row.cost quota) first (λ account. refl)
      ∙ ap (option_map (freeing row.cost quota)) (accounts_left home home_apart ∙ leaves.stand.units home)
      ∙ freeing_by (find (is_partition home) s.partitions) refl
      ∙ ap (option_map (account_of after.objects after.partitions)) (sym (rows_left home home_apart))

  same_by : (x : ℕ) → x ≢ home → (one : Option PartitionRow) → find (is_partition x) s.partitions ≡ one
      → option_map (account_of s.objects s.partitions) one ≡ option_map (account_of after.objects after.partitions) one
  unfolding account_with
  same_by x apart None is = refl
  same_by x apart (Some one) is =
      let same : one.serial.0 ≡ x = eqb-true one.serial.0 x (found_passes (is_partition x) s.partitions one is) in
      let elsewhere : home ≢ one.serial.0 = λ also. apart (sym same ∙ sym also) in
      ap (λ (n : ℕ). Some (account_with one n (given_by s.partitions one.serial.0))) (used_there one.serial.0 elsewhere)
      ∙ ap (λ (n : ℕ). Some (account_with one (used_by after.objects one.serial.0) n)) (given_there one.serial.0 elsewhere)

  shown_there : (x : ℕ) → x ≢ object.0 → x ≢ home → Shown x
  unfolding Shown
  shown_there x apart elsewhere =
      accounts_there x elsewhere ∙ accounts_left x apart ∙ leaves.stand.units x
      ∙ same_by x elsewhere (find (is_partition x) s.partitions) refl
      ∙ ap (option_map (account_of after.objects after.partitions)) (sym (rows_left x apart))

  pub units_left : UnitsStand accounts after.objects after.partitions
  unfolding Shown
  units_left x =
      elim (cases_eq x object.0) [
        | inl same ↦ subst Shown (sym same) shown_gone
        | inr apart ↦
            elim (cases_eq x home) [
              | inl here ↦ subst Shown (sym here) shown_home
              | inr elsewhere ↦ shown_there x apart elsewhere
            ]
      ]

  has_by : (one : Option PartitionRow) → find (is_partition home) s.partitions ≡ one
      → IfSome (option_map (account_of s.objects s.partitions) one) (HasUnits row.cost quota)
  has_by None is = tt
  has_by (Some one) is =
      let same : one.serial.0 ≡ home = eqb-true one.serial.0 home (found_passes (is_partition home) s.partitions one is) in
      record {
        used = subst (λ (n : ℕ). row.cost ≤ used_by s.objects n) (sym same) (omega (arith, used_here));
        given = subst (λ (n : ℕ). quota ≤ given_by s.partitions n) (sym same) (omega (arith, given_here));
      }

  -- its partition's account has its units
  pub home_has : IfSome (find (is_account home) first) (HasUnits row.cost quota)
  home_has =
      subst (λ (one : Option Account). IfSome one (HasUnits row.cost quota))
      (sym (accounts_left home home_apart ∙ leaves.stand.units home)) (has_by (find (is_partition home) s.partitions) refl)
