-- The copy has what came so far, and what is left completes it.
use Rattle.std.proofs.Common.{◌≡◌, ◌++◌, drop}
use Rattle.gh_core.proofs.cpu.copies_of_made.Given as goal

abbrev pub invariant-loop-call : goal.invariant-loop-call
invariant-loop-call l = l.copy ++ drop l.call-index l.made ≡ l.made
