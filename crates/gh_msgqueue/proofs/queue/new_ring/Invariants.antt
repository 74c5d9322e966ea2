use Rattle.std.proofs.Common.{◌≡◌, [], replicate}
use Rattle.circular_buffer.specs.Buffer.{buffer}
use Rattle.gh_msgqueue.specs.Slot.{content}
use Rattle.gh_msgqueue.proofs.queue.new_ring.Given as goal

abbrev pub invariant-loop : goal.invariant-loop
invariant-loop l = l.ring ≡ buffer (replicate l.counter (content [] l.size)) l.depth
