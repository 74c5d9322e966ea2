-- What is written so far and what the rest writes make the whole.
use Rattle.std.proofs.Common.{◌≡◌, ◌++◌, drop, string_bytes}
use Rattle.std.specs.List.{flat_map}
use Rattle.gh_model.specs.Text.{look_words}
use Rattle.gh_driver.proofs.text.put_looks.Given as goal

abbrev pub invariant-loop-look : goal.invariant-loop-look
invariant-loop-look l = string_bytes l.out ++ flat_map look_words (drop l.look-index l.looks) ≡ string_bytes l.fn.out ++ flat_map look_words l.looks
