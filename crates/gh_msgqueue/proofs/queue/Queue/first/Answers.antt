use Rattle.gh_msgqueue.proofs.RingLemmas.{limits_of_ring}
use Rattle.gh_msgqueue.proofs.queue.Queue.first.Goals as goal

pub returns-clause-limits : goal.returns-clause-limits
returns-clause-limits c = rw (← c.self.view_is) (limits_of_ring _ _ _ c.self.invariant)
