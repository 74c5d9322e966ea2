-- What is written so far and what the rest writes make the whole.
use Rattle.std.proofs.Common.{◌≡◌, ◌++◌, drop, string_bytes}
use Rattle.std.specs.List.{flat_map}
use Rattle.gh_model.specs.Text.{spaced}
use Rattle.gh_driver.proofs.text.put_counters.Given as goal

abbrev pub invariant-loop-counter : goal.invariant-loop-counter
invariant-loop-counter l = string_bytes l.out ++ flat_map spaced (drop l.counter-index l.seen) ≡ string_bytes l.fn.out ++ flat_map spaced l.seen
