-- The first run is the parent's, or the row is gone.
use Rattle.std.proofs.Common.{sym, ◌∙◌}
use Rattle.gh_extent.specs.Extents.{Extents, HasRow}
use Rattle.gh_extent.proofs.ExtentLemmas.{first_run-within}
use Rattle.gh_extent.proofs.TreeLemmas.{parent-row, tree-moved, tree-without}
use Rattle.gh_extent.proofs.extents.Extents.give_back.Goals as goal

pub invariant_of-self : goal.invariant_of-self
invariant_of-self c =
    let s : Extents = record { rows = c.self.inside.rows.items; holders = c.self.inside.holders } in
    let leaf = rw (← c.self.view_is) at c.requires.leaf in
    let none = sym c.first_run.ensures ∙ c.in_default.is in
    rw c.remove_row.ensures (tree-without s c.args.extent.0 leaf none c.self.invariant)

pub give-requires : goal.give-requires
give-requires c =
    first_run-within c.args.extent.0 c.self.inside.holders _ (sym c.first_run.ensures ∙ c.in-Some.is)

pub invariant_of-self-2 : goal.invariant_of-self-2
invariant_of-self-2 c =
    let s : Extents = record { rows = c.self.inside.rows.items; holders = c.self.inside.holders } in
    let run = first_run-within c.args.extent.0 c.self.inside.holders _ (sym c.first_run.ensures ∙ c.in-Some.is) in
    let can = rw (← c.self.view_is) at c.requires.parent in
    let found = rw (← c.self.view_is) at (sym c.row.ensures.row ∙ c.unwrap.ensures) in
    let above : HasRow s c.unwrap.result.parent.0 = parent-row s c.args.extent.0 c.unwrap.result c.self.invariant found can in
    rw c.give.ensures (tree-moved s c.in-Some.first.0 c.in-Some.count c.unwrap.result.parent run above c.self.invariant)
