-- Nothing is listed where no object lives.
use Rattle.gh_objects.proofs.CountsLemmas.{AreListed-none}
use Rattle.gh_objects.proofs.counts.Counts.new.Goals as goal

pub invariant_of-result : goal.invariant_of-result
invariant_of-result c = AreListed-none _ _ _ c.in_ok-nothing_counted.ensures c.in_ok-new.ensures c.in_ok-new-2.ensures
