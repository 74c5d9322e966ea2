-- What callers see of a partition: the units that it has in all, and where they are.
use Rattle.std.specs.Prelude.{ℕ, ◌-◌, nat_lt, if◌then◌else◌, Result, Ok, Err}
use Rattle.gh_partition.specs.declared.Short.{Short}

-- all units, those that its objects use, and those that are the quotas of partitions below it
pub record Units : Type 0 where
  pub quota : ℕ
  pub used : ℕ
  pub given : ℕ

-- the rest
abbrev pub free_units : Units → ℕ
free_units units = units.quota - units.used - units.given

-- the answer to a wish for units: refused exactly where too few are free, with the free number
abbrev pub granted : Units → ℕ → Result (Unit {0}) Short
granted units wanted =
    if nat_lt (free_units units) wanted then Err (record { free = free_units units }) else Ok tt
