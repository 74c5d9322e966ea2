-- A new object has a header and a count of its serial.
use Rattle.std.proofs.Common.{refl}
use Rattle.gh_objects.proofs.ObjectsLemmas.{ArePaired-set}
use Rattle.gh_objects.proofs.objects.Objects.insert.Goals as goal

pub invariant_of-self : goal.invariant_of-self
invariant_of-self c =
    rw (c.set.ensures.count, c.insert-index.ensures.inserted, c.new.ensures, c.insert-index.ensures.index)
    (ArePaired-set _ _ _ _ _ _ _ c.self.invariant (rw c.insert-index.ensures.index at c.insert-index.ensures.within) refl)
