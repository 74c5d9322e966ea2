-- What a test that is true says.
use Rattle.std.proofs.Common.{◌≤◌, ℕ, Bool, true, false, IsTrue, nat_le, refl}
use Rattle.std.proofs.lemmas.Bool.{leb-true}
use Rattle.std.specs.Prelude.{◌&&◌}

-- both sides of an && hold
pub and-first : (a b : Bool) → IsTrue (a && b) → IsTrue a
and-first true b h = refl
and-first false b h = h

pub and-second : (a b : Bool) → IsTrue (a && b) → IsTrue b
and-second true b h = h
and-second false b h = cc

pub at_most : (a b : ℕ) → IsTrue (nat_le a b) → a ≤ b
at_most a b h = leb-true a b h
