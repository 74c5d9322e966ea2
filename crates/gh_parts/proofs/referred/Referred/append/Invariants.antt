-- What is left to name gives the whole.
use Rattle.std.proofs.Common.{◌≡◌, ◌++◌, drop}
use Rattle.gh_parts.proofs.referred.Referred.append.Given as goal

abbrev pub invariant-loop-object : goal.invariant-loop-object
invariant-loop-object l = l.self ++ drop l.object-index l.objects ≡ l.fn.self ++ l.objects
