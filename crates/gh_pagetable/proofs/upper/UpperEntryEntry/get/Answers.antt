-- In a uniform range a page leads where the entry says.
use Rattle.std.proofs.Common.{◌*◌, sym, ◌∙◌}
use Rattle.gh_pagetable.proofs.Runs.{at-run}
use Rattle.gh_pagetable.proofs.upper.UpperEntryEntry.get.Goals as goal

pub returns-in-Uniform : goal.returns-in-Uniform
returns-in-Uniform g c =
    let view = rw c.in-Uniform.is at c.self.view_is in
    let there = at-run c.in-Uniform.target (16 * g.E.Entry.PAGES) c.args.page c.requires in
    c.further.ensures ∙ rw (← view) (sym there)
