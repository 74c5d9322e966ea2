-- What is left goes on from here as all goes on from 0.
use Rattle.std.proofs.Common.{◌≡◌, drop, fold, map}
use Rattle.gh_core.specs.Running.{made_of}
use Rattle.gh_model.specs.Marks.{place_after_call}
use Rattle.gh_core.proofs.lookups.place_after.Given as goal

abbrev pub invariant-loop-call : goal.invariant-loop-call
invariant-loop-call l =
    fold place_after_call l.place (map made_of (drop l.call-index l.made))
    ≡ fold place_after_call l.initial.place (map made_of l.made)
