-- The parts without an object: its slots and its account are closed, its units come back to its
-- partition, and its header goes with all that stands at its index.
use Rattle.std.specs.Prelude.{◌-◌, ◌≤◌, ℕ, Option, None, slice_set}
use Rattle.std.specs.Option.{option_map_or}
use Rattle.gh_base.specs.declared.ids.Serial.{Serial}
use Rattle.gh_model.specs.Changes.{without}
use Rattle.gh_model.specs.Rows.{change_row}
use Rattle.gh_model.specs.declared.rows.ExtentRow.{ExtentRow}
use Rattle.gh_objects.specs.Headers.{header_removed}
use Rattle.gh_parts.specs.Accounts.{with_accounts}
use Rattle.gh_parts.specs.Shares.{no_place, with_place}
use Rattle.gh_parts.specs.Slots.{is_home}
use Rattle.gh_parts.specs.Stands.{is_account}
use Rattle.gh_parts.specs.declared.journal.Account.{Account}
use Rattle.gh_parts.specs.declared.parts.Parts.{Parts}

-- the parent in the row of an extent
abbrev pub row_parent : ExtentRow → Serial
row_parent row = row.parent

-- the parts without the slots and the account of an object
abbrev pub closed : ℕ → Parts → Parts
closed object parts = record parts {
  journal = record (parts.journal) {
    slots = without (is_home object) parts.journal.slots;
    accounts = without (is_account object) parts.journal.accounts;
  };
}

-- the quota in an account, if there is one
abbrev pub quota_of : Option Account → ℕ
quota_of account = option_map_or (λ (a : Account). a.units.quota) account 0

-- an account has so many units that are used, and so many that are given
pub record HasUnits (cost quota : ℕ) (account : Account) : Type 0 where
  pub used : cost ≤ account.units.used
  pub given : quota ≤ account.units.given

-- these units are free again
abbrev pub freeing : ℕ → ℕ → Account → Account
freeing cost quota account = record account {
  units = record (account.units) {
    used = account.units.used - cost;
    given = account.units.given - quota;
  };
}

abbrev pub freed : ℕ → ℕ → ℕ → Parts → Parts
freed partition cost quota parts =
    with_accounts
    (change_row (is_account partition) (freeing cost quota) parts.journal.accounts) parts

-- the parts without the object at an index
abbrev pub removed : ℕ → Parts → Parts
removed index parts = record parts {
  table = header_removed parts.table index;
  shares = with_place parts.shares index no_place;
  journal = record (parts.journal) {
    counts = slice_set parts.journal.counts index None;
    retirements = slice_set parts.journal.retirements index None;
  };
}
