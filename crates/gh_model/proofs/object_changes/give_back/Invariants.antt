-- The pages before the place have their new holders, and those behind it get them.
use Rattle.std.proofs.Common.{◌≡◌, ◌++◌, drop, map, take}
use Rattle.gh_model.specs.Changes.{given_back}
use Rattle.gh_model.proofs.object_changes.give_back.Given as goal

abbrev pub invariant-loop-holder : goal.invariant-loop-holder
invariant-loop-holder l =
    take l.holder-index l.holders ++ map (given_back l.extent.0 l.parent) (drop l.holder-index l.holders)
    ≡ map (given_back l.extent.0 l.parent) l.initial.holders
