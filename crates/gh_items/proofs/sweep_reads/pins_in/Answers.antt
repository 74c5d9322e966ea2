-- A call has no more pins than looks, two at most.
use Rattle.std.proofs.Common.{arith}
use Rattle.gh_items.proofs.SweepReadLemmas.{call_few}
use Rattle.gh_items.proofs.sweep_reads.pins_in.Goals as goal

pub returns-clause-few : goal.returns-clause-few
returns-clause-few c = omega (arith, c.pinned_at.ensures, call_few c.args.index.0 c.args.call.now, c.len-count.ensures.count, c.len-count.ensures.room)
