use Rattle.std.proofs.Common.{◌≡◌, ◌+◌, drop}
use Rattle.std.specs.List.{prefix_len}
use Rattle.gh_callfile.specs.Grammar.{is_register, texts_of}
use Rattle.gh_callfile.proofs.call_line.count_registers.Given as goal

abbrev pub invariant-loop-word : goal.invariant-loop-word
invariant-loop-word l = record {
  counted : l.count ≡ l.word-index;
  left : l.count + prefix_len is_register (texts_of (drop l.word-index l.words)) ≡ prefix_len is_register (texts_of l.words);
}
