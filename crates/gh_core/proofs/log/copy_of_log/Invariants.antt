-- The copy has what came so far, and what is left completes it.
use Rattle.std.proofs.Common.{◌≡◌, ◌++◌, drop}
use Rattle.gh_core.proofs.log.copy_of_log.Given as goal

abbrev pub invariant-loop-logged : goal.invariant-loop-logged
invariant-loop-logged l = l.copy ++ drop l.logged-index l.log ≡ l.log
