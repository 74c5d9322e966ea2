-- Accounts of partitions, and how they are changed.
use Rattle.std.specs.Prelude.{◌+◌, ◌-◌, ℕ, List, Option, nat_lt, if◌then◌else◌}
use Rattle.std.specs.Option.{option_map, option_map_or}
use Rattle.gh_base.specs.declared.ids.Serial.{Serial}
use Rattle.gh_partition.specs.Units.{Units, free_units}
use Rattle.gh_model.specs.Rows.{change_row}
use Rattle.gh_model.specs.declared.rows.PartitionRow.{PartitionRow}
use Rattle.gh_parts.specs.Index.{home_in, index_of}
use Rattle.gh_parts.specs.Shares.{with_cost_at}
use Rattle.gh_parts.specs.Slots.{no_serial}
use Rattle.gh_parts.specs.Stands.{is_account}
use Rattle.gh_parts.specs.declared.journal.Account.{Account}
use Rattle.gh_parts.specs.declared.parts.Parts.{Parts}

-- the partition has so many units, all of them free
abbrev pub quoted : ℕ → Account → Account
quoted quota account = record account { units = record { quota = quota; used = 0; given = 0 } }

-- so many units more are given away, if they are free
abbrev pub more_given : ℕ → Units → Units
more_given quota units =
    if nat_lt (free_units units) quota then units
    else record units { given = units.given + quota }

abbrev pub giving : ℕ → Account → Account
giving quota account = record account { units = more_given quota account.units }

-- so many units more are used, if they are free
abbrev pub more_used : ℕ → Units → Units
more_used cost units =
    if nat_lt (free_units units) cost then units else record units { used = units.used + cost }

abbrev pub using : ℕ → Account → Account
using cost account = record account { units = more_used cost account.units }

-- the partition that gave the quota
abbrev pub giver_in : Option Account → Serial
giver_in account = option_map_or (λ (a : Account). a.parent) account no_serial

-- the parts with other accounts
abbrev pub with_accounts : List Account → Parts → Parts
with_accounts accounts parts =
    record parts { journal = record (parts.journal) { accounts = accounts } }

-- the parts with another cost of an object
abbrev pub costing : ℕ → ℕ → Parts → Parts
costing object cost parts = record parts {
  shares = with_cost_at parts.shares (index_of parts.table.headers object) cost;
}

-- and with the units that it costs beside the first used in its partition
abbrev pub costing_more : ℕ → ℕ → Parts → Parts
costing_more object cost parts =
    with_accounts
    (change_row (is_account (home_in parts.table.headers object).0) (using (cost - 1))
    parts.journal.accounts)
    (costing object cost parts)

-- the units that are left in an account, if there is one
abbrev pub free_of : Option Account → ℕ
free_of account = option_map_or (λ (a : Account). free_units a.units) account 0

-- the used, free and given units in an account, if there is one
abbrev pub units_told : Account → ℕ × ℕ × ℕ
units_told account = (account.units.used, free_units account.units, account.units.given)

abbrev pub units_in : Option Account → Option (ℕ × ℕ × ℕ)
units_in account = option_map units_told account

-- the row of a partition, as its account has it
abbrev pub partition_of : Account → PartitionRow
partition_of account =
    record { serial = account.partition; parent = account.parent; quota = account.units.quota }

abbrev pub partition_in : Option Account → Option PartitionRow
partition_in account = option_map partition_of account
