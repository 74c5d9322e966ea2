-- The words so far.
use Rattle.std.proofs.Common.{◌≡◌, ◌<◌, ℕ, Some, slice_get}
use Rattle.gh_words.specs.Booting.{placed_word}
use Rattle.gh_words.proofs.boot.boot_caps.Given as goal

abbrev pub invariant-loop-place : goal.invariant-loop-place
invariant-loop-place l = (n : ℕ) → n < l.place → slice_get l.words n ≡ Some (placed_word l.boot n)
