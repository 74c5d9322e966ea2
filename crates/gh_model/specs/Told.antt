-- How the number of a line or an item is told.
use Rattle.std.specs.Prelude.{◌-◌, ◌^◌, ℕ, min}

-- it stands still at the largest number of 32 bits
abbrev pub told_number : ℕ → ℕ
told_number number = min number (2 ^ 32 - 1)
