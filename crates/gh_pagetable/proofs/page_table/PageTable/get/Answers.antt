-- The entries of the top table cover all pages.
use Rattle.std.proofs.Common.{ap, sym, ◌∙◌, length}
use Rattle.gh_pagetable.proofs.Tables.{length-table}
use Rattle.gh_pagetable.proofs.page_table.PageTable.get.Goals as goal

pub returns-clause-size : goal.returns-clause-size
returns-clause-size c =
    ap length (sym c.self.view_is) ∙ length-table (λ e. e) 256 c.self.inside.top.items c.self.invariant
