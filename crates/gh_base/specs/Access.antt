-- What an access number allows.
use Rattle.std.specs.Prelude.{◌≡◌, ◌==◌, ◌||◌, ℕ, Option, Some}
use Rattle.std.specs.Prelude.{None, bit_and, nat_lt, if◌then◌else◌}
use Rattle.gh_base.specs.declared.access.Access.{Access}

-- 3 and what is above 7 are no access
abbrev pub access_of_bits : ℕ → Option Access
access_of_bits bits = if (bits == 3) || nat_lt 7 bits then None else Some (record { 0 = bits })

-- every bit of a is in b: of accesses and of rights
abbrev pub IsWithin : ℕ → ℕ → Type 0
IsWithin a b = bit_and a b ≡ a
