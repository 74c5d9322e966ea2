-- A uniform range has no table, and any other its own and those of its entries.
use Rattle.std.proofs.Common.{◌+◌, ◌*◌, sym, ap, ◌∙◌}
use Rattle.gh_pagetable.proofs.Entries.{tables_below-table}
use Rattle.gh_pagetable.proofs.Uniform.{is_uniform-run}
use Rattle.gh_pagetable.proofs.upper.UpperEntryEntry.tables.Goals as goal

pub returns-in-Uniform-clause-exact : goal.returns-in-Uniform-clause-exact
returns-in-Uniform-clause-exact g c =
    let view = rw c.in-Uniform.is at c.self.view_is in
    let uniform = is_uniform-run c.in-Uniform.field-0 (16 * g.E.Entry.PAGES) in
    rw (← view, uniform)

pub returns-in-Table-clause-exact : goal.returns-in-Table-clause-exact
returns-in-Table-clause-exact g c =
    let view = rw c.in-Table.is at c.self.view_is in
    let split = rw c.in-Table.is at c.self.invariant.canonical in
    let table = c.self.invariant.table in
    let below = tables_below-table g.E.Entry.targets g.E.Entry.PAGES _ table g.E.Entry.tables_in split in
    let counted = rw c.deref.ensures.value at c.tables.ensures.exact in
    rw (← view) (ap (λ x. 1 + x) counted ∙ sym below)
