-- What callers see of a grace period: for each CPU the counter that is still waited for, if there
-- is one.
use Rattle.std.specs.Prelude.{◌≡◌, ◌≤◌, ℕ, Bool, IsTrue, List, map}
use Rattle.std.specs.Prelude.{Option, Some, None, is_none, nat_lt, slice_set, slice_get}
use Rattle.std.specs.Prelude.{slice_index, slice_index_or, if◌then◌else◌}
use Rattle.std.specs.List.{list_all, zip}
use Rattle.gh_base.specs.Counters.{is_odd}

-- the counter that is waited for of a CPU that starts with it: only an odd one
abbrev pub awaited : ℕ → Option ℕ
awaited counter = if is_odd counter then Some counter else None

-- what is still waited for once the CPU is seen at a counter: nothing where that is greater
abbrev pub still_awaited : Option ℕ → ℕ → Option ℕ
still_awaited None counter = None
still_awaited (Some kept) counter = if nat_lt kept counter then None else Some kept

-- the grace period that starts with these counters
abbrev pub started : List ℕ → List (Option ℕ)
started seen = map awaited seen

-- the grace period after one CPU's counter is noted; a CPU that there isn't changes nothing
abbrev pub noted : List (Option ℕ) → ℕ → ℕ → List (Option ℕ)
noted waiting cpu counter =
    slice_set waiting cpu (still_awaited (slice_index_or waiting cpu None) counter)

-- the grace period after the counters of all CPUs are noted
abbrev pub all_noted : List (Option ℕ) → List ℕ → List (Option ℕ)
all_noted waiting now = map (λ cpu. still_awaited cpu.0 cpu.1) (zip waiting now)

-- no CPU is waited for
abbrev pub has_passed : List (Option ℕ) → Bool
has_passed waiting = list_all is_none waiting

-- a CPU is still in the section that it was in: this counter was its odd one, and none greater is
-- there
pub record IsStillReading (seen now : List ℕ) (cpu counter : ℕ) : Type 0 where
  pub before : slice_get seen cpu ≡ Some counter
  pub odd : IsTrue (is_odd counter)
  pub after : slice_index now cpu ≤ counter
