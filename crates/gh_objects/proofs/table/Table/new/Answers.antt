-- Nothing is taken where no object lives.
use Rattle.std.proofs.Common.{refl}
use Rattle.gh_objects.proofs.KindsLemmas.{AreCounted-none}
use Rattle.gh_objects.proofs.NamesLemmas.{AreNamed-none}
use Rattle.gh_objects.proofs.TableLemmas.{IsMarked-none}
use Rattle.gh_objects.proofs.table.Table.new.Goals as goal

pub invariant_of-result : goal.invariant_of-result
invariant_of-result c = record {
  marked = IsMarked-none _ _ c.in_ok-no_headers.ensures refl;
  named = AreNamed-none _ _ c.in_ok-no_headers.ensures c.in_ok-new.ensures;
  counted = AreCounted-none _ _ c.in_ok-no_headers.ensures refl;
}
