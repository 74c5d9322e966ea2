-- What is written so far and what the rest writes make the whole.
use Rattle.std.proofs.Common.{◌≡◌, ◌++◌, drop, string_bytes}
use Rattle.std.specs.List.{flat_map}
use Rattle.gh_model.specs.Text.{spaced_register}
use Rattle.gh_driver.proofs.text.put_registers.Given as goal

abbrev pub invariant-loop-register : goal.invariant-loop-register
invariant-loop-register l = string_bytes l.out ++ flat_map spaced_register (drop l.register-index l.registers) ≡ string_bytes l.fn.out ++ flat_map spaced_register l.registers
