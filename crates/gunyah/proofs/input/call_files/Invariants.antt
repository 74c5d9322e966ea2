use Rattle.std.proofs.Common.{◌≡◌, [], length, drop}
use Rattle.gunyah.specs.Input.{calls_on}
use Rattle.gunyah.proofs.input.call_files.Given as goal

abbrev pub invariant-loop-text : goal.invariant-loop-text
invariant-loop-text l = record {
  rest : calls_on l.vms l.room l.files (drop l.text-index l.texts) ≡ calls_on l.fn.vms 65536 [] l.fn.texts;
  count : length l.files ≡ l.text-index;
}
