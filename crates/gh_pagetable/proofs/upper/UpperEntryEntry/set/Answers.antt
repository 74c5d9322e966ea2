-- A run that is the whole range makes it uniform.
use Rattle.std.proofs.Common.{◌≡◌, ◌+◌, ◌*◌, ◌≤◌, length, sym, ◌∙◌}
use Rattle.gh_pagetable.specs.Entry.{run}
use Rattle.gh_pagetable.proofs.Entries.{length-targets_of}
use Rattle.gh_pagetable.proofs.Overwriting.{overwritten-whole}
use Rattle.gh_pagetable.proofs.Runs.{length-run}
use Rattle.gh_pagetable.proofs.upper.UpperEntryEntry.set.Goals as goal

pub returns-then-count-PAGES : goal.returns-then-count-PAGES
returns-then-count-PAGES g c =
    let pages = 16 * g.E.Entry.PAGES in
    let old = c.args.self.now in
    let size : length old ≡ pages = rw (← c.self.view_is) (length-targets_of _ _ _ c.self.invariant.table _) in
    let whole : c.args.count ≡ pages = c.if-count-PAGES.true ∙ c.PAGES.ensures in
    let filled = length-run c.args.target pages in
    let within : c.args.first + pages ≤ pages = rw whole at c.requires.inside in
    let us = run c.args.target pages in
    let all = overwritten-whole old us c.args.first (filled ∙ sym size) (rw (filled, size) within) in
    rw whole (sym all)
