-- The copy has what came so far, and what is left completes it.
use Rattle.std.proofs.Common.{◌≡◌, ◌++◌, drop}
use Rattle.gh_model.proofs.copy.copy_of_messages.Given as goal

abbrev pub invariant-loop-message : goal.invariant-loop-message
invariant-loop-message l = l.copy ++ drop l.message-index l.messages ≡ l.messages
