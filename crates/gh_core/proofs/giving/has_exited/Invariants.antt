-- None so far is an exit call.
use Rattle.std.proofs.Common.{◌≡◌, drop, map}
use Rattle.std.specs.List.{list_any}
use Rattle.gh_model.specs.Legal.{exits}
use Rattle.gh_core.specs.Running.{made_of}
use Rattle.gh_core.proofs.giving.has_exited.Given as goal

abbrev pub invariant-loop-call : goal.invariant-loop-call
invariant-loop-call l = list_any exits (map made_of (drop l.call-index l.made)) ≡ list_any exits (map made_of l.made)
