-- The new row's parent has a row.
use Rattle.gh_extent.specs.Extents.{Extents}
use Rattle.gh_extent.proofs.TreeLemmas.{tree-row}
use Rattle.gh_extent.proofs.extents.Extents.push.Goals as goal

pub invariant_of-self-2 : goal.invariant_of-self-2
invariant_of-self-2 c =
    let s : Extents = record { rows = c.self.inside.rows.items; holders = c.self.inside.holders } in
    let fits = rw (← c.self.view_is) at c.requires.span in
    let above = rw (← c.self.view_is) at c.requires.parent in
    rw c.in_ok-push.ensures.items (tree-row s c.args.row c.self.invariant fits above)
