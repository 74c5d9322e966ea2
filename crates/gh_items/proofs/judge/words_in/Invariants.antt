-- The words so far and those that are left are all words.
use Rattle.std.proofs.Common.{◌≡◌, ◌++◌, drop, length, map}
use Rattle.gh_core.specs.Running.{seen_of}
use Rattle.gh_model.specs.Marks.{word_of}
use Rattle.gh_items.proofs.judge.words_in.Given as goal

abbrev pub invariant-loop-look : goal.invariant-loop-look
invariant-loop-look l = record {
  count : length l.words ≡ l.look-index;
  rest : l.words ++ map word_of (map seen_of (drop l.look-index l.seen)) ≡ map word_of (map seen_of l.seen);
}
