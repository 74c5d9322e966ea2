-- What is made, with the continuations that hold what is left, is all of the fragments.
use Rattle.std.proofs.Common.{map}
use Rattle.gh_rpc.proofs.FragmentLemmas.{IsMaking}
use Rattle.gh_rpc.proofs.message.fragments.Given as goal

abbrev pub invariant-loop : goal.invariant-loop
invariant-loop l = IsMaking l.message l.further l.counter l.left (map (λ f. f.items) l.made.items)
