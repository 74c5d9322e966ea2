-- For callers of a sink: the bytes that it tells, over several puts.
use Rattle.std.proofs.Common.{◌≡◌, ℕ, List, ◌++◌, Option}
use Rattle.std.proofs.Common.{None, Some, refl, ap, append_assoc}
use Rattle.std.specs.Io.KnownBytes.{append_known}

-- two pieces taken one after the other are one piece
pub append_known-append_known : (known : Option (List ℕ)) (a b : List ℕ)
    → append_known (append_known known a) b ≡ append_known known (a ++ b)
append_known-append_known None a b = refl
append_known-append_known (Some told) a b = ap Some (append_assoc told a b)

-- what a function that puts pieces in turn names in its tactic
pub ruleset pieces = (append_known-append_known)
