-- Read sections by the CPUs' counters.
use Rattle.std.specs.Prelude.{◌==◌, ◌<◌, ◌%◌, ℕ, Bool, IsTrue, List}
use Rattle.std.specs.List.{AllZip}

-- a CPU with an odd counter is in a read section
abbrev pub is_odd : ℕ → Bool
is_odd counter = counter % 2 == 1

-- every CPU that was in a read section has left it: its counter was odd, and is greater now
abbrev pub HaveLeft : List ℕ → List ℕ → Type 0
HaveLeft seen now = AllZip (λ before after. IsTrue (is_odd before) → before < after) seen now
