-- What is written so far and what the rest writes make the whole.
use Rattle.std.proofs.Common.{◌≡◌, ◌++◌, drop, string_bytes}
use Rattle.std.specs.List.{flat_map}
use Rattle.gh_model.specs.Text.{held_words}
use Rattle.gh_driver.proofs.text.put_all_held.Given as goal

abbrev pub invariant-loop-cause : goal.invariant-loop-cause
invariant-loop-cause l = string_bytes l.out ++ flat_map held_words (drop l.cause-index l.held) ≡ string_bytes l.fn.out ++ flat_map held_words l.held
