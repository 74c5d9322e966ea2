-- A page's target is in the entry that covers it.
use Rattle.std.proofs.Common.{sym, ◌∙◌}
use Rattle.gh_pagetable.proofs.Tables.{at-table}
use Rattle.gh_pagetable.proofs.table.get.Goals as goal

pub returns : goal.returns
returns g c =
    let pages = c.PAGES-pages.ensures in
    let read = rw pages at c.index-entries-page.is in
    let got = rw pages at c.get.ensures in
    let some = g.met.E.Entry.some in
    let table = c.requires.table in
    let inside = c.requires.inside in
    let found = at-table g.E.Entry.targets g.E.Entry.PAGES _ c.args.page _ table some inside read in
    got ∙ sym found
