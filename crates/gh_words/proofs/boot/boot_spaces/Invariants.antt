-- The objects so far.
use Rattle.std.proofs.Common.{◌≡◌, ◌<◌, ℕ, Some, slice_get}
use Rattle.gh_words.specs.Booting.{space_at}
use Rattle.gh_words.proofs.boot.boot_spaces.Given as goal

abbrev pub invariant-loop-at : goal.invariant-loop-at
invariant-loop-at l = (n : ℕ) → n < l.at → slice_get l.spaces n ≡ Some (space_at l.boot n)
