-- The words so far.
use Rattle.std.proofs.Common.{◌≡◌, ◌<◌, ℕ, Some, slice_get}
use Rattle.gh_words.specs.Booting.{boot_word}
use Rattle.gh_words.proofs.boot.boot_references.Given as goal

abbrev pub invariant-loop-at : goal.invariant-loop-at
invariant-loop-at l = (n : ℕ) → n < l.at → slice_get l.words n ≡ Some (boot_word l.boot n)
