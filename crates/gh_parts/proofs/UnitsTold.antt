-- A live partition's account tells its units, and no other serial has one.
use Rattle.std.proofs.Common.{◌≡◌, ◌-◌, ◌≤◌, ◌∙◌, ℕ, Bool, true, false, Option, Some, None, refl, sym, ap, arith, find, if◌then◌else◌}
use Rattle.std.specs.Option.{option_map}
use Rattle.std.proofs.lemmas.Bool.{eqb-true}
use Rattle.gh_base.specs.declared.kind.Kind.TheVariants as kind
use Rattle.gh_invariant.proofs.Counting.{count_unfound, found_one, found_passes}
use Rattle.gh_invariant.specs.Valid.{IsValidWithin}
use Rattle.gh_model.specs.Boot.{is_kind}
use Rattle.gh_model.specs.QueueCalls.{one_if}
use Rattle.gh_model.specs.Reads.{partition_units}
use Rattle.gh_model.specs.Rows.{is_partition}
use Rattle.gh_model.specs.Units.{given_by, row_quota, used_by}
use Rattle.gh_model.specs.declared.rows.PartitionRow.{PartitionRow}
use Rattle.gh_model.specs.declared.state.State.{State}
use Rattle.gh_parts.specs.Accounts.{units_in}
use Rattle.gh_parts.specs.Stands.{Stands, account_of, is_account}
use Rattle.gh_parts.specs.declared.parts.Parts.{Parts}

none_if : {X : Type 0} (here : Bool) (x : X) → one_if here ≡ 0 → None ≡ (if here then Some x else None)
none_if true x none = let one : one_if true ≡ 1 = refl in absurd (omega arith)
none_if false x none = refl

some_if : {X : Type 0} (here : Bool) (x : X) → 1 ≤ one_if here → Some x ≡ (if here then Some x else None)
some_if true x some = refl
some_if false x some = let none : one_if false ≡ 0 = refl in absurd (omega arith)

module _ (parts : Parts) (s : State) (stand : Stands parts s) (valid : IsValidWithin s) where
  told_by : (serial : ℕ) (found : Option PartitionRow) → find (is_partition serial) s.partitions ≡ found
      → units_in (option_map (account_of s.objects s.partitions) found) ≡ partition_units s serial
  told_by serial None is =
      none_if (is_kind s serial kind.Partition) _
      (omega (arith, valid.rows.partitions serial, count_unfound (is_partition serial) s.partitions is))
  told_by serial (Some row) is =
      ap (λ (n : ℕ). Some (used_by s.objects n, row.quota - used_by s.objects n - given_by s.partitions n, given_by s.partitions n))
      (eqb-true row.serial.0 serial (found_passes (is_partition serial) s.partitions row is))
      ∙ ap (λ (one : Option PartitionRow). Some (used_by s.objects serial, row_quota one - used_by s.objects serial - given_by s.partitions serial, given_by s.partitions serial))
      (sym is)
      ∙ some_if (is_kind s serial kind.Partition) _
      (omega (arith, valid.rows.partitions serial, found_one (is_partition serial) s.partitions row is))

  pub units_told : (serial : ℕ) → units_in (find (is_account serial) parts.journal.accounts) ≡ partition_units s serial
  units_told serial =
      ap units_in (stand.units serial) ∙ told_by serial (find (is_partition serial) s.partitions) refl
