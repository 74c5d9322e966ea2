use Rattle.std.proofs.Common.{◌≡◌, ◌++◌, drop}
use Rattle.gunyah.specs.Words.{word_bytes}
use Rattle.gunyah.proofs.words.copies.Given as goal

abbrev pub invariant-loop-word : goal.invariant-loop-word
invariant-loop-word l = record {
  rest : word_bytes l.copies.items ++ word_bytes (drop l.word-index l.words) ≡ word_bytes l.fn.words;
}
