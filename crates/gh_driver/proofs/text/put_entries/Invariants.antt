-- What is written so far and what the rest writes make the whole.
use Rattle.std.proofs.Common.{◌≡◌, ◌++◌, drop, string_bytes, ◌+◌}
use Rattle.std.specs.List.{flat_map, enumerate_from}
use Rattle.gh_model.specs.Text.{entry_line}
use Rattle.gh_driver.proofs.text.put_entries.Given as goal

abbrev pub invariant-loop-at : goal.invariant-loop-at
invariant-loop-at l = string_bytes l.out ++ flat_map entry_line (enumerate_from (l.at + 1) (drop l.at l.entries)) ≡ string_bytes l.fn.out ++ flat_map entry_line (enumerate_from 1 l.entries)
