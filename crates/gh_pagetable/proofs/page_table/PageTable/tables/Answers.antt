-- The tables below the entries of the top table are those of the map.
use Rattle.std.proofs.Common.{◌∙◌, ap}
use Rattle.gh_pagetable.specs.Map.{tables_of}
use Rattle.gh_pagetable.proofs.Counting.{tables_of-top}
use Rattle.gh_pagetable.proofs.page_table.PageTable.tables.Goals as goal

pub returns : goal.returns
returns c =
    let counted = rw c.deref.ensures.value at c.tables.ensures.exact in
    counted ∙ tables_of-top c.self.inside.top.items c.self.invariant ∙ ap tables_of c.self.view_is
