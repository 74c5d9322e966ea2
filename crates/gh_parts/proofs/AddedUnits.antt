-- Units stand once an object is entered: its partition uses its cost, and a new partition has an
-- account.
use Rattle.std.proofs.Common.{◌≡◌, ◌≢◌, ◌≤◌, ◌+◌, ◌-◌, ◌∙◌, ◌∷◌, ◌++◌, ℕ, false, List, [], Option, Some, None, refl, sym, ap, subst, arith, inl, inr}
use Rattle.std.proofs.Common.{find, nat_lt}
use Rattle.std.specs.Option.{option_map}
use Rattle.std.proofs.lemmas.Bool.{cases_eq, eq-eqb, eqb-true, le-ltb, ne_eqb}
use Rattle.gh_base.specs.declared.ids.Serial.{Serial}
use Rattle.gh_base.specs.declared.kind.Kind.{Kind}
use Rattle.gh_base.specs.declared.kind.Kind.TheVariants as kind
use Rattle.gh_invariant.proofs.ChangedRow.{find_past_change}
use Rattle.gh_invariant.proofs.Counting.{find_push_new, find_push_other, found_passes}
use Rattle.gh_invariant.proofs.UnitsMoved.{given_push, used_push}
use Rattle.gh_model.proofs.ChangedRows.{find_changed}
use Rattle.gh_model.specs.Changes.{new_partitions}
use Rattle.gh_model.specs.Rows.{change_row, is_partition}
use Rattle.gh_model.specs.Units.{given_by, row_quota, used_by}
use Rattle.gh_model.specs.declared.rows.ObjectRow.{ObjectRow}
use Rattle.gh_model.specs.declared.rows.PartitionRow.{PartitionRow}
use Rattle.gh_model.specs.declared.state.State.{State}
use Rattle.gh_parts.specs.Accounts.{using}
use Rattle.gh_parts.specs.ObjectChanges.{new_account, with_account}
use Rattle.gh_parts.specs.Stands.{UnitsStand, account_of, is_account}
use Rattle.gh_parts.specs.declared.journal.Account.{Account}
use Rattle.gh_parts.specs.declared.parts.Parts.{Parts}
use Rattle.gh_parts.proofs.Entering.{Enters}
use Rattle.gh_parts.proofs.FoundRows.{find_behind, find_beside}
use Rattle.gh_parts.proofs.StandsBells.{apart_serials}
use Rattle.gh_parts.proofs.StandsCost.{costs_not}
use Rattle.gh_parts.proofs.StandsQuota.{costs_in}

-- a partition's row, and its account, are its own
rows_apart : (k : Kind) (serial parent : Serial) (x : ℕ) → x ≢ serial.0
    → find (is_partition x) (new_partitions k serial parent) ≡ None
rows_apart kind.Partition serial parent x apart = rw (ne_eqb serial.0 x (λ same. apart (sym same))) refl
rows_apart kind.Cspace serial parent x apart = refl
rows_apart kind.Space serial parent x apart = refl
rows_apart kind.Extent serial parent x apart = refl
rows_apart kind.Bell serial parent x apart = refl
rows_apart kind.Queue serial parent x apart = refl

accounts_apart : (k : Kind) (serial parent : Serial) (all : List Account) (x : ℕ) → x ≢ serial.0
    → find (is_account x) (with_account k serial parent all) ≡ find (is_account x) all
accounts_apart kind.Partition serial parent all x apart =
    find_push_other (is_account x) all (new_account serial parent) (ne_eqb serial.0 x (λ same. apart (sym same)))
accounts_apart kind.Cspace serial parent all x apart = refl
accounts_apart kind.Space serial parent all x apart = refl
accounts_apart kind.Extent serial parent all x apart = refl
accounts_apart kind.Bell serial parent all x apart = refl
accounts_apart kind.Queue serial parent all x apart = refl

-- the account of a partition of which nothing is used or given
account_with : Serial → Serial → ℕ → ℕ → ℕ → Account
account_with serial parent quota used given = record {
  partition = serial;
  parent = parent;
  units = record { quota = quota; used = used; given = given };
}

-- a new partition's account is that of its row
accounts_here : (k : Kind) (serial parent : Serial) (all : List Account) (objects : List ObjectRow)
    (partitions : List PartitionRow) → find (is_account serial.0) all ≡ None
    → 0 ≡ used_by objects serial.0 → 0 ≡ given_by partitions serial.0
    → find (is_account serial.0) (with_account k serial parent all)
    ≡ option_map (account_of objects partitions) (find (is_partition serial.0) (new_partitions k serial parent))
unfolding account_with
accounts_here kind.Partition serial parent all objects partitions none used given =
    find_push_new (is_account serial.0) all (new_account serial parent) none (eq-eqb serial.0 serial.0 refl)
    ∙ ap (λ (n : ℕ). Some (account_with serial parent 0 n 0)) used
    ∙ ap (λ (n : ℕ). Some (account_with serial parent 0 (used_by objects serial.0) n)) given
    ∙ rw (eq-eqb serial.0 serial.0 refl) refl
accounts_here kind.Cspace serial parent all objects partitions none used given = none
accounts_here kind.Space serial parent all objects partitions none used given = none
accounts_here kind.Extent serial parent all objects partitions none used given = none
accounts_here kind.Bell serial parent all objects partitions none used given = none
accounts_here kind.Queue serial parent all objects partitions none used given = none

-- the object lives in a partition that has so many units, and no row tells of it yet
pub record Takes (s : State) (row : ObjectRow) : Type 0 where
  pub home : row.partition.0 ≢ row.serial.0
  pub units : row.cost ≤ row_quota (find (is_partition row.partition.0) s.partitions)
      - used_by s.objects row.partition.0 - given_by s.partitions row.partition.0
  pub unused : used_by s.objects row.serial.0 + given_by s.partitions row.serial.0 ≤ 0
  pub unknown : find (is_partition row.serial.0) s.partitions ≡ None

module _ (owed : List Serial) (parts : Parts) (s : State) (row : ObjectRow) (home at : ℕ)
    (enters : Enters owed parts s row home at) (takes : Takes s row) where
  abbrev serial : ℕ
  serial = row.serial.0

  abbrev partition : ℕ
  partition = row.partition.0

  abbrev objects : List ObjectRow
  objects = s.objects ++ row ∷ []

  abbrev more : List PartitionRow
  more = new_partitions row.kind row.serial row.partition

  abbrev partitions : List PartitionRow
  partitions = s.partitions ++ more

  abbrev first : List Account
  first = with_account row.kind row.serial row.partition parts.journal.accounts

  abbrev accounts : List Account
  accounts = change_row (is_account partition) (using row.cost) first

  used_home : used_by s.objects partition + row.cost ≡ used_by objects partition
  used_home = omega (arith, used_push s.objects row partition, costs_in partition row refl)

  used_other : (x : ℕ) → partition ≢ x → used_by s.objects x ≡ used_by objects x
  used_other x apart = omega (arith, used_push s.objects row x, costs_not x row apart)

  given_same : (x : ℕ) → given_by s.partitions x ≡ given_by partitions x
  given_same x = sym (given_push s.partitions row.kind row.serial row.partition x)

  found_other : (x : ℕ) → x ≢ partition → find (is_account x) accounts ≡ find (is_account x) first
  found_other x apart =
      find_past_change (is_account x) (is_account partition) (using row.cost) first
      (λ account is. apart_serials partition x account.partition.0 apart is)
      (λ account is. apart_serials partition x account.partition.0 apart is)

  Shown : ℕ → Type 0
  Shown x = find (is_account x) accounts ≡ option_map (account_of objects partitions) (find (is_partition x) partitions)

  shown_new : Shown serial
  unfolding Shown
  shown_new =
      found_other serial (λ same. takes.home (sym same))
      ∙ accounts_here row.kind row.serial row.partition parts.journal.accounts objects partitions
      (enters.stand.units serial ∙ ap (option_map (account_of s.objects s.partitions)) takes.unknown)
      (omega (arith, takes.unused, used_other serial takes.home))
      (omega (arith, takes.unused, given_same serial))
      ∙ ap (option_map (account_of objects partitions)) (sym (find_behind (is_partition serial) s.partitions more takes.unknown))

  rows_other : (x : ℕ) → x ≢ serial → find (is_partition x) partitions ≡ find (is_partition x) s.partitions
  rows_other x apart =
      find_beside (is_partition x) s.partitions more (rows_apart row.kind row.serial row.partition x apart)

  using_is : (one : PartitionRow) → find (is_partition partition) s.partitions ≡ Some one
      → using row.cost (account_of s.objects s.partitions one) ≡ account_of objects partitions one
  unfolding account_with
  using_is one is =
      let same : one.serial.0 ≡ partition =
      eqb-true one.serial.0 partition (found_passes (is_partition partition) s.partitions one is) in
      let units : row.cost ≤ one.quota - used_by s.objects partition - given_by s.partitions partition =
      subst (λ (n : ℕ). row.cost ≤ n - used_by s.objects partition - given_by s.partitions partition) (ap row_quota is) takes.units in
      let enough : nat_lt (one.quota - used_by s.objects one.serial.0 - given_by s.partitions one.serial.0) row.cost ≡ false =
      subst (λ (n : ℕ). nat_lt (one.quota - used_by s.objects n - given_by s.partitions n) row.cost ≡ false) (sym same)
      (le-ltb (one.quota - used_by s.objects partition - given_by s.partitions partition) row.cost units) in
      let used : used_by s.objects one.serial.0 + row.cost ≡ used_by objects one.serial.0 =
      subst (λ (n : ℕ). used_by s.objects n + row.cost ≡ used_by objects n) (sym same) used_home in
      rw enough (ap (λ (n : ℕ). account_with one.serial one.parent one.quota n (given_by s.partitions one.serial.0)) used
      ∙ ap (account_with one.serial one.parent one.quota (used_by objects one.serial.0)) (given_same one.serial.0))

  using_by : (found : Option PartitionRow) → find (is_partition partition) s.partitions ≡ found
      → option_map (using row.cost) (option_map (account_of s.objects s.partitions) found)
      ≡ option_map (account_of objects partitions) found
  using_by None is = refl
  using_by (Some one) is = ap Some (using_is one is)

  shown_home : Shown partition
  unfolding Shown
  shown_home =
      find_changed (is_account partition) (using row.cost) first (λ account. refl)
      ∙ ap (option_map (using row.cost))
      (accounts_apart row.kind row.serial row.partition parts.journal.accounts partition takes.home
      ∙ enters.stand.units partition)
      ∙ using_by (find (is_partition partition) s.partitions) refl
      ∙ ap (option_map (account_of objects partitions)) (sym (rows_other partition takes.home))

  same_by : (x : ℕ) → x ≢ partition → (found : Option PartitionRow) → find (is_partition x) s.partitions ≡ found
      → option_map (account_of s.objects s.partitions) found ≡ option_map (account_of objects partitions) found
  unfolding account_with
  same_by x apart None is = refl
  same_by x apart (Some one) is =
      let same : one.serial.0 ≡ x =
      eqb-true one.serial.0 x (found_passes (is_partition x) s.partitions one is) in
      let used : used_by s.objects one.serial.0 ≡ used_by objects one.serial.0 =
      used_other one.serial.0 (λ also. apart (sym same ∙ sym also)) in
      ap (λ (n : ℕ). Some (account_with one.serial one.parent one.quota n (given_by s.partitions one.serial.0))) used
      ∙ ap (λ (n : ℕ). Some (account_with one.serial one.parent one.quota (used_by objects one.serial.0) n)) (given_same one.serial.0)

  shown_other : (x : ℕ) → x ≢ serial → x ≢ partition → Shown x
  unfolding Shown
  shown_other x apart elsewhere =
      found_other x elsewhere
      ∙ accounts_apart row.kind row.serial row.partition parts.journal.accounts x apart
      ∙ enters.stand.units x
      ∙ same_by x elsewhere (find (is_partition x) s.partitions) refl
      ∙ ap (option_map (account_of objects partitions)) (sym (rows_other x apart))

  pub units_now : UnitsStand accounts objects partitions
  unfolding Shown
  units_now x =
      elim (cases_eq x serial) [
        | inl same ↦ subst Shown (sym same) shown_new
        | inr apart ↦
            elim (cases_eq x partition) [
              | inl here ↦ subst Shown (sym here) shown_home
              | inr other ↦ shown_other x apart other
            ]
      ]
