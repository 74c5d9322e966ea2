-- The parts stand for the rows once a partition got its quota.
use Rattle.std.proofs.Common.{◌≡◌, ◌≢◌, ◌<◌, ◌≤◌, ◌+◌, ◌-◌, ◌∙◌, ℕ, true, false, List, Option, Some, None, refl, sym, ap, subst}
use Rattle.std.proofs.Common.{arith, inl, inr, find, nat_lt, nat_le}
use Rattle.std.specs.Option.{option_map}
use Rattle.std.proofs.lemmas.Bool.{and_parts, cases_eq, eq-eqb, eqb-true, le-ltb, ltb-true, ne_eqb}
use Rattle.gh_base.specs.declared.ids.Serial.{Serial}
use Rattle.gh_base.specs.declared.limits.TheConstants.{PARTITION_UNITS}
use Rattle.gh_invariant.proofs.ChangedRow.{find_past_change}
use Rattle.gh_invariant.proofs.Counting.{found_all, found_passes}
use Rattle.gh_invariant.proofs.Summing.{number_found}
use Rattle.gh_invariant.proofs.UnitsMoved.{cost_in, given_change, quota_in, used_without}
use Rattle.gh_invariant.specs.Lives.{cost_fits, giver, lives_under, quota_fits}
use Rattle.gh_invariant.specs.Premises.{MayGive}
use Rattle.gh_invariant.specs.Valid.{IsValidWithin}
use Rattle.gh_model.proofs.ChangedRows.{find_changed}
use Rattle.gh_model.specs.Changes.{give_quota, with_quota, without}
use Rattle.gh_model.specs.Rows.{change_row, is_object, is_partition}
use Rattle.gh_model.specs.Units.{given_by, row_quota, used_by}
use Rattle.gh_model.specs.declared.change.Change.TheVariants.{GiveQuota}
use Rattle.gh_model.specs.declared.rows.ObjectRow.{ObjectRow}
use Rattle.gh_model.specs.declared.rows.PartitionRow.{PartitionRow}
use Rattle.gh_model.specs.declared.state.State.{State}
use Rattle.gh_parts.specs.Accounts.{giver_in, giving, quoted, with_accounts}
use Rattle.gh_parts.specs.Stands.{Stands, UnitsStand, account_of, is_account}
use Rattle.gh_parts.specs.declared.journal.Account.{Account}
use Rattle.gh_parts.specs.declared.parts.Parts.{Parts}
use Rattle.gh_parts.proofs.Living.{There}
use Rattle.gh_parts.proofs.StandsBells.{apart_serials}
use Rattle.gh_parts.proofs.StandsMoved.{references_moved, serial_some}

-- a row counts where it passes
pub counts_in : (partition : ℕ) (row : PartitionRow) → row.parent.0 ≡ partition
    → quota_in partition row ≡ row.quota
counts_in partition row same = rw (eq-eqb row.parent.0 partition same) refl

pub counts_not : (partition : ℕ) (row : PartitionRow) → row.parent.0 ≢ partition
    → quota_in partition row ≡ 0
counts_not partition row apart = rw (ne_eqb row.parent.0 partition apart) refl

pub costs_in : (partition : ℕ) (row : ObjectRow) → row.partition.0 ≡ partition
    → cost_in partition row ≡ row.cost
costs_in partition row same = rw (eq-eqb row.partition.0 partition same) refl

module _ (parts : Parts) (s : State) (stand : Stands parts s) (valid : IsValidWithin s)
    (partition : Serial) (quota : ℕ) (may : MayGive s partition.0 quota) where
  abbrev row : PartitionRow
  row = may.row

  abbrev parent : Serial
  parent = row.parent

  abbrev partitions : List PartitionRow
  partitions = change_row (is_partition partition.0) (with_quota quota) s.partitions

  row_is : row.serial.0 ≡ partition.0
  row_is = eqb-true row.serial.0 partition.0 (found_passes (is_partition partition.0) s.partitions row may.found)

  parts_of : (nat_le row.quota PARTITION_UNITS ≡ true) × (lives_under (giver row) (find (is_object row.serial.0) s.objects) ≡ true)
  parts_of =
      and_parts _ _ (found_all (is_partition partition.0) (quota_fits s.objects) s.partitions row valid.units.quotas may.found)

  giver_is : giver row ≡ parent.0
  giver_is = rw (ne_eqb parent.0 0 (λ none. omega (arith, may.called))) refl

  under : lives_under parent.0 (find (is_object partition.0) s.objects) ≡ true
  under =
      subst (λ (n : ℕ). lives_under n (find (is_object partition.0) s.objects) ≡ true) giver_is
      (subst (λ (n : ℕ). lives_under (giver row) (find (is_object n) s.objects) ≡ true) row_is parts_of.1)

  lives_there : (found : Option ObjectRow) → lives_under parent.0 found ≡ true → There found
  lives_there None is = absurd (let never : ⊥ = cc in never)
  lives_there (Some object) is = record { it = object; is = refl }

  object : There (find (is_object partition.0) s.objects)
  object = lives_there (find (is_object partition.0) s.objects) under

  some : 0 < partition.0
  some = serial_some (s.entries + 1) s (GiveQuota partition quota) valid may partition.0 object.it object.is

  -- the partition has nothing yet
  nothing : used_by s.objects partition.0 + given_by s.partitions partition.0 ≤ 0
  nothing = omega (arith, valid.units.within partition.0 some, ap row_quota may.found, may.none)

  lives_in_parent : object.it.partition.0 ≡ parent.0
  lives_in_parent =
      eqb-true object.it.partition.0 parent.0
      (subst (λ (found : Option ObjectRow). lives_under parent.0 found ≡ true) object.is under)

  costs : 0 < object.it.cost
  costs =
      ltb-true 0 object.it.cost
      ((and_parts _ _ (found_all (is_object partition.0) (cost_fits s.partitions s.extents) s.objects object.it valid.units.costs object.is)).0)

  -- it isn't its own parent, which would use a unit
  parent_apart : parent.0 ≢ partition.0
  parent_apart same =
      let whole : used_by (without (is_object partition.0) s.objects) partition.0
      + number_found (cost_in partition.0) (find (is_object partition.0) s.objects)
      ≡ used_by s.objects partition.0 =
      used_without (is_object partition.0) s.objects partition.0 (valid.objects.once partition.0) in
      let one : number_found (cost_in partition.0) (find (is_object partition.0) s.objects) ≡ object.it.cost =
      ap (number_found (cost_in partition.0)) object.is ∙ costs_in partition.0 object.it (lives_in_parent ∙ same) in
      omega (arith, whole, one, costs, nothing)

  given_sums : (x : ℕ) → given_by partitions x + quota_in x row ≡ given_by s.partitions x + quota_in x (with_quota quota row)
  given_sums x =
      let sums : given_by partitions x + number_found (quota_in x) (find (is_partition partition.0) s.partitions)
      ≡ given_by s.partitions x + number_found (quota_in x) (option_map (with_quota quota) (find (is_partition partition.0) s.partitions)) =
      given_change (is_partition partition.0) (with_quota quota) s.partitions x in
      subst (λ (found : Option PartitionRow). given_by partitions x + number_found (quota_in x) found
      ≡ given_by s.partitions x + number_found (quota_in x) (option_map (with_quota quota) found)) may.found sums

  given_parent : given_by partitions parent.0 ≡ given_by s.partitions parent.0 + quota
  given_parent =
      omega (arith, given_sums parent.0, counts_in parent.0 row refl, counts_in parent.0 (with_quota quota row) refl, may.none)

  given_other : (x : ℕ) → parent.0 ≢ x → given_by partitions x ≡ given_by s.partitions x
  given_other x apart =
      omega (arith, given_sums x, counts_not x row apart, counts_not x (with_quota quota row) apart)

  -- the accounts
  abbrev first : List Account
  first = change_row (is_account partition.0) (quoted quota) parts.journal.accounts

  abbrev accounts : List Account
  accounts = change_row (is_account parent.0) (giving quota) first

  found_first : (x : ℕ) → x ≢ partition.0 → find (is_account x) first ≡ find (is_account x) parts.journal.accounts
  found_first x apart =
      find_past_change (is_account x) (is_account partition.0) (quoted quota) parts.journal.accounts
      (λ account is. apart_serials partition.0 x account.partition.0 apart is)
      (λ account is. apart_serials partition.0 x account.partition.0 apart is)

  found_second : (x : ℕ) → x ≢ parent.0 → find (is_account x) accounts ≡ find (is_account x) first
  found_second x apart =
      find_past_change (is_account x) (is_account parent.0) (giving quota) first
      (λ account is. apart_serials parent.0 x account.partition.0 apart is)
      (λ account is. apart_serials parent.0 x account.partition.0 apart is)

  rows_other : (x : ℕ) → x ≢ partition.0 → find (is_partition x) partitions ≡ find (is_partition x) s.partitions
  rows_other x apart =
      find_past_change (is_partition x) (is_partition partition.0) (with_quota quota) s.partitions
      (λ one is. apart_serials partition.0 x one.serial.0 apart is)
      (λ one is. apart_serials partition.0 x one.serial.0 apart is)

  Shown : ℕ → Type 0
  Shown x = find (is_account x) accounts ≡ option_map (account_of s.objects partitions) (find (is_partition x) partitions)

  units_with : PartitionRow → ℕ → ℕ → ℕ → Account
  units_with one quota used given = record {
    partition = one.serial;
    parent = one.parent;
    units = record { quota = quota; used = used; given = given };
  }

  quoted_is : quoted quota (account_of s.objects s.partitions row) ≡ account_of s.objects partitions (with_quota quota row)
  unfolding units_with
  quoted_is =
      let used : 0 ≡ used_by s.objects row.serial.0 =
      subst (λ (n : ℕ). 0 ≡ used_by s.objects n) (sym row_is) (omega (arith, nothing)) in
      let given : 0 ≡ given_by partitions row.serial.0 =
      subst (λ (n : ℕ). 0 ≡ given_by partitions n) (sym row_is) (omega (arith, nothing, given_other partition.0 parent_apart)) in
      ap (λ (n : ℕ). units_with row quota n 0) used ∙ ap (units_with row quota (used_by s.objects row.serial.0)) given

  shown_here : Shown partition.0
  unfolding Shown
  shown_here =
      found_second partition.0 (λ same. parent_apart (sym same))
      ∙ find_changed (is_account partition.0) (quoted quota) parts.journal.accounts (λ account. refl)
      ∙ ap (option_map (quoted quota)) (stand.units partition.0 ∙ ap (option_map (account_of s.objects s.partitions)) may.found)
      ∙ ap Some quoted_is
      ∙ ap (option_map (account_of s.objects partitions))
      (sym (find_changed (is_partition partition.0) (with_quota quota) s.partitions (λ one. refl) ∙ ap (option_map (with_quota quota)) may.found))

  giving_is : (one : PartitionRow) → find (is_partition parent.0) s.partitions ≡ Some one
      → giving quota (account_of s.objects s.partitions one) ≡ account_of s.objects partitions one
  unfolding units_with
  giving_is one is =
      let serial : one.serial.0 ≡ parent.0 =
      eqb-true one.serial.0 parent.0 (found_passes (is_partition parent.0) s.partitions one is) in
      let free : quota ≤ one.quota - used_by s.objects parent.0 - given_by s.partitions parent.0 =
      subst (λ (n : ℕ). quota ≤ n - used_by s.objects parent.0 - given_by s.partitions parent.0) (ap row_quota is) may.units in
      let enough : nat_lt (one.quota - used_by s.objects one.serial.0 - given_by s.partitions one.serial.0) quota ≡ false =
      subst (λ (n : ℕ). nat_lt (one.quota - used_by s.objects n - given_by s.partitions n) quota ≡ false) (sym serial) (le-ltb _ quota free) in
      let given : given_by s.partitions one.serial.0 + quota ≡ given_by partitions one.serial.0 =
      subst (λ (n : ℕ). given_by s.partitions n + quota ≡ given_by partitions n) (sym serial) (sym given_parent) in
      rw enough (ap (units_with one one.quota (used_by s.objects one.serial.0)) given)

  giving_by : (found : Option PartitionRow) → find (is_partition parent.0) s.partitions ≡ found
      → option_map (giving quota) (option_map (account_of s.objects s.partitions) found)
      ≡ option_map (account_of s.objects partitions) found
  giving_by None is = refl
  giving_by (Some one) is = ap Some (giving_is one is)

  shown_parent : Shown parent.0
  unfolding Shown
  shown_parent =
      find_changed (is_account parent.0) (giving quota) first (λ account. refl)
      ∙ ap (option_map (giving quota)) (found_first parent.0 parent_apart ∙ stand.units parent.0)
      ∙ giving_by (find (is_partition parent.0) s.partitions) refl
      ∙ ap (option_map (account_of s.objects partitions)) (sym (rows_other parent.0 parent_apart))

  same_by : (x : ℕ) → x ≢ parent.0 → (found : Option PartitionRow) → find (is_partition x) s.partitions ≡ found
      → option_map (account_of s.objects s.partitions) found ≡ option_map (account_of s.objects partitions) found
  unfolding units_with
  same_by x apart None is = refl
  same_by x apart (Some one) is =
      let serial : one.serial.0 ≡ x =
      eqb-true one.serial.0 x (found_passes (is_partition x) s.partitions one is) in
      ap (λ (n : ℕ). Some (units_with one one.quota (used_by s.objects one.serial.0) n))
      (subst (λ (n : ℕ). given_by s.partitions n ≡ given_by partitions n) (sym serial) (sym (given_other x (λ same. apart (sym same)))))

  shown_other : (x : ℕ) → x ≢ partition.0 → x ≢ parent.0 → Shown x
  unfolding Shown
  shown_other x apart above =
      found_second x above ∙ found_first x apart ∙ stand.units x
      ∙ same_by x above (find (is_partition x) s.partitions) refl
      ∙ ap (option_map (account_of s.objects partitions)) (sym (rows_other x apart))

  units_now : UnitsStand accounts s.objects partitions
  unfolding Shown
  units_now x =
      elim (cases_eq x partition.0) [
        | inl same ↦ subst Shown (sym same) shown_here
        | inr apart ↦
            elim (cases_eq x parent.0) [
              | inl above ↦ subst Shown (sym above) shown_parent
              | inr other ↦ shown_other x apart other
            ]
      ]

  pub quota_stands : Stands (with_accounts accounts parts) (give_quota partition quota s)
  quota_stands = record {
    objects = stand.objects;
    kinds = stand.kinds;
    references =
        references_moved (s.entries + 1) s (GiveQuota partition quota) valid may parts.table.headers parts.journal.counts refl stand.references;
    bells = stand.bells;
    queues = stand.queues;
    spans = stand.spans;
    spaces = stand.spaces;
    slots = stand.slots;
    units = units_now;
    memory = stand.memory;
    blocks = stand.blocks;
    numbers = record {
      cpus = stand.numbers.cpus;
      links = stand.numbers.links;
      taken = stand.numbers.taken;
      entries = stand.numbers.entries;
      serials = stand.numbers.serials;
      handles = stand.numbers.handles;
      rings = stand.numbers.rings;
    };
  }

  -- the parent is told by the partition's account
  pub parent_told : giver_in (find (is_account partition.0) parts.journal.accounts) ≡ parent
  parent_told = ap giver_in (stand.units partition.0 ∙ ap (option_map (account_of s.objects s.partitions)) may.found)
