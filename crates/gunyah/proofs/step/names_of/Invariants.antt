use Rattle.std.proofs.Common.{◌≡◌, ◌+◌, ◌++◌, drop, length}
use Rattle.gh_callfile.specs.Grammar.{texts_of}
use Rattle.gunyah.specs.Words.{step_files, word_bytes}
use Rattle.gunyah.proofs.step.names_of.Given as goal

abbrev pub invariant-loop-name : goal.invariant-loop-name
invariant-loop-name l = record {
  names : texts_of l.names.items ++ word_bytes (drop l.name-index l.name-items) ≡ step_files l.fn.args;
  count : length l.names.items ≡ l.name-index + 2;
}
