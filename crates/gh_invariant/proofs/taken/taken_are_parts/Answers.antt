-- The laws are the lemmas.
use Rattle.std.proofs.Common.{false, true}
use Rattle.gh_invariant.proofs.TakenLemmas.{boot_taken, event_taken}
use Rattle.gh_invariant.proofs.taken.taken_are_parts.Goals as goal

pub returns-clause-allowed : goal.returns-clause-allowed
returns-clause-allowed c = λ s event is. event_taken s event true is

pub returns-clause-refused : goal.returns-clause-refused
returns-clause-refused c = λ s event is. event_taken s event false is

pub returns-clause-history : goal.returns-clause-history
returns-clause-history c = λ lines history n each. boot_taken lines history n each
