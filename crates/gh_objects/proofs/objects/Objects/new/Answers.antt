-- Nothing is paired where no object lives.
use Rattle.gh_objects.proofs.ObjectsLemmas.{ArePaired-none}
use Rattle.gh_objects.proofs.objects.Objects.new.Goals as goal

pub invariant_of-result : goal.invariant_of-result
invariant_of-result c = rw (c.in_ok-new.ensures, c.in_ok-new-2.ensures) ArePaired-none
