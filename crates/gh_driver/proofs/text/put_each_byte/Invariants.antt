-- What is written so far and what the rest writes make the whole.
use Rattle.std.proofs.Common.{◌≡◌, ◌++◌, drop, string_bytes}
use Rattle.std.specs.List.{flat_map}
use Rattle.gh_model.specs.Text.{byte_text}
use Rattle.gh_driver.proofs.text.put_each_byte.Given as goal

abbrev pub invariant-loop-byte : goal.invariant-loop-byte
invariant-loop-byte l = string_bytes l.out ++ flat_map byte_text (drop l.byte-index l.bytes) ≡ string_bytes l.fn.out ++ flat_map byte_text l.bytes
