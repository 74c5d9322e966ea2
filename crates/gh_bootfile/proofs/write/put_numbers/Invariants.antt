-- What is written so far and what the rest writes make the whole.
use Rattle.std.proofs.Common.{◌≡◌, ◌++◌, drop, string_bytes}
use Rattle.std.specs.List.{flat_map}
use Rattle.gh_model.specs.Text.{spaced}
use Rattle.gh_bootfile.proofs.write.put_numbers.Given as goal

abbrev pub invariant-loop-number : goal.invariant-loop-number
invariant-loop-number l = string_bytes l.out ++ flat_map spaced (drop l.number-index l.numbers) ≡ string_bytes l.fn.out ++ flat_map spaced l.numbers
