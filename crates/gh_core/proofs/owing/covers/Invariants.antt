-- It is covered at the indices so far.
use Rattle.std.proofs.Common.{◌≡◌, ◌<◌, ℕ, true}
use Rattle.gh_core.specs.Owing.{covers_there}
use Rattle.gh_core.specs.Running.{index_in}
use Rattle.gh_core.proofs.owing.covers.Given as goal

abbrev pub invariant-loop-at : goal.invariant-loop-at
invariant-loop-at l =
    (k : ℕ) → k < l.at → covers_there l.owed l.behind.old.now l.behind.new.now (index_in l.behind.first.now l.behind.given.now) (index_in l.behind.first.now l.behind.later.now) k ≡ true
