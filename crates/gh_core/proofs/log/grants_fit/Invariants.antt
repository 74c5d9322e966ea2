-- What is left fits as all does.
use Rattle.std.proofs.Common.{◌≡◌, drop}
use Rattle.gh_model.specs.History.{grants_fit}
use Rattle.gh_core.proofs.log.grants_fit.Given as goal

abbrev pub invariant-loop-at : goal.invariant-loop-at
invariant-loop-at l = grants_fit (drop l.at l.needs) (drop l.at l.words) ≡ grants_fit l.needs l.words
