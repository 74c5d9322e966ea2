-- What is left can be made, and completes what came so far.
use Rattle.std.proofs.Common.{◌≡◌, ◌≤◌, drop}
use Rattle.gh_words.specs.Holding.{owings}
use Rattle.gh_words.specs.Steady.{MakesAll, MayMake}
use Rattle.gh_words.proofs.turns.owe_each.Given as goal

abbrev pub invariant-loop-object : goal.invariant-loop-object
invariant-loop-object g l = record {
  can : MayMake (g.W.Words.shows l.words) (owings (drop l.object-index l.objects) l.more);
  rest : (later : g.row.W.Denot)
      → MakesAll g.W.Words.between (g.W.Words.shows l.words) (g.W.Words.shows later) (owings (drop l.object-index l.objects) l.more)
      → MakesAll g.W.Words.between (g.W.Words.shows l.initial.words) (g.W.Words.shows later) (owings l.objects l.more);
  stays : g.W.Words.room l.initial.words ≤ g.W.Words.room l.words;
  rings : g.W.Words.bell l.words ≡ g.W.Words.bell l.initial.words;
}
