-- What is written so far and what the rest writes make the whole.
use Rattle.std.proofs.Common.{◌≡◌, ◌++◌, drop, string_bytes, filter}
use Rattle.std.specs.List.{flat_map}
use Rattle.gh_model.specs.Run.{is_mark_of}
use Rattle.gh_model.specs.Text.{call_line}
use Rattle.gh_driver.proofs.text.put_cpu.Given as goal

abbrev pub invariant-loop-mark : goal.invariant-loop-mark
invariant-loop-mark l = string_bytes l.out ++ flat_map call_line (filter (is_mark_of l.cpu.0) (drop l.mark-index l.marks)) ≡ string_bytes l.fn.out ++ flat_map call_line (filter (is_mark_of l.cpu.0) l.marks)
