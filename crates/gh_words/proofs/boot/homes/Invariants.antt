-- The CPUs so far.
use Rattle.std.proofs.Common.{◌≡◌, ◌<◌, ℕ, Some, slice_get}
use Rattle.gh_words.specs.Booting.{home_index}
use Rattle.gh_words.proofs.boot.homes.Given as goal

abbrev pub invariant-loop-cpu : goal.invariant-loop-cpu
invariant-loop-cpu l = (n : ℕ) → n < l.cpu → slice_get l.homes n ≡ Some (home_index l.boot n)
