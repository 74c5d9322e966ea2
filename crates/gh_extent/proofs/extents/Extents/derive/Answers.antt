-- The child has a row once it is put last.
use Rattle.std.proofs.Common.{refl}
use Rattle.std.proofs.lemmas.Bool.{eq-eqb}
use Rattle.gh_model.specs.Rows.{is_extent}
use Rattle.gh_extent.proofs.TreeLemmas.{find-last}
use Rattle.gh_extent.proofs.extents.Extents.derive.Goals as goal

pub give_from-requires-clause-to : goal.give_from-requires-clause-to
give_from-requires-clause-to c =
    rw c.in_ok-push.ensures.ok (find-last (is_extent c.args.child.0) _ _ (eq-eqb c.args.child.0 c.args.child.0 refl))
