-- What the looks from here on come to is what all of them come to.
use Rattle.std.proofs.Common.{◌≡◌, drop, map}
use Rattle.gh_core.specs.Running.{seen_of}
use Rattle.gh_model.specs.Marks.{outcome, word_of}
use Rattle.gh_core.proofs.current.outcome.Given as goal

abbrev pub invariant-loop-at : goal.invariant-loop-at
invariant-loop-at l =
    outcome (drop l.at l.needs) (map word_of (map seen_of (drop l.at l.seen)))
    ≡ outcome l.needs (map word_of (map seen_of l.seen))
