-- What is written so far and what the rest writes make the whole.
use Rattle.std.proofs.Common.{◌≡◌, ◌++◌, drop, string_bytes}
use Rattle.std.specs.List.{flat_map}
use Rattle.gh_model.specs.Text.{cpu_lines}
use Rattle.gh_driver.proofs.text.put_cpus.Given as goal

abbrev pub invariant-loop-row : goal.invariant-loop-row
invariant-loop-row l = string_bytes l.out ++ flat_map (cpu_lines l.marks) (drop l.row-index l.rows) ≡ string_bytes l.fn.out ++ flat_map (cpu_lines l.marks) l.rows
