-- What is left goes over the last one so far as all goes over none.
use Rattle.std.proofs.Common.{◌≡◌, drop, fold}
use Rattle.gh_core.specs.Tables.{later_word}
use Rattle.gh_core.proofs.table.last_word.Given as goal

abbrev pub invariant-loop-word : goal.invariant-loop-word
invariant-loop-word l =
    fold (later_word l.space l.slot) l.last (drop l.word-index l.written)
    ≡ fold (later_word l.fn.space l.fn.slot) l.initial.last l.written
