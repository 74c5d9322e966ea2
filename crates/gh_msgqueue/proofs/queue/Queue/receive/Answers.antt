use Rattle.gh_msgqueue.proofs.RingLemmas.{laid_out_rotated, queue_in_rotated}
use Rattle.gh_msgqueue.proofs.queue.Queue.receive.Goals as goal

pub invariant_of-self : goal.invariant_of-self
invariant_of-self c = rw c.rotate.ensures (laid_out_rotated c.self.inside.ring _ _ c.self.invariant)

pub returns-clause-received : goal.returns-clause-received
returns-clause-received c =
    let first = rw (← c.self.view_is) at c.in-Some.ensures.first in
    rw (← c.self.view_is, c.rotate.ensures, c.copied-bytes.ensures)
    (queue_in_rotated c.self.inside.ring _ _ _ first c.self.invariant)
