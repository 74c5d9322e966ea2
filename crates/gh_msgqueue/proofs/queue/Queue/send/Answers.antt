use Rattle.gh_msgqueue.proofs.RingLemmas.{queue_in_after_write}
use Rattle.gh_msgqueue.proofs.queue.Queue.send.Goals as goal

pub returns-clause-sent : goal.returns-clause-sent
returns-clause-sent c =
    rw (c.write.ensures, ← c.self.view_is)
    (queue_in_after_write c.self.inside.ring _ _ _ _ _ c.in-Some.ensures.value)
