-- The new span lies in the parent's, and so in the machine.
use Rattle.gh_extent.specs.Extents.{Extents, span_row}
use Rattle.gh_extent.proofs.ExtentLemmas.{span-within}
use Rattle.gh_extent.proofs.TreeLemmas.{tree-row}
use Rattle.gh_extent.proofs.extents.Extents.add.Goals as goal

pub invariant_of-self-2 : goal.invariant_of-self-2
invariant_of-self-2 c =
    let s : Extents = record { rows = c.self.inside.rows.items; holders = c.self.inside.holders } in
    let inside = rw (← c.self.view_is) at c.requires.span in
    let fits = span-within c.args.span c.args.parent.0 s c.self.invariant.within inside in
    let above = rw (← c.self.view_is) at c.requires.child.above in
    rw c.in_ok-push.ensures.items (tree-row s (span_row c.args.serial c.args.parent c.args.span) c.self.invariant fits above)
