-- One more part of the run is set, and at the end all is.
use Rattle.std.proofs.Common.{◌+◌, ◌*◌, ◌%◌, ◌<◌, ◌≤◌, arith, sym, ◌∙◌}
use Rattle.std.proofs.lemmas.Nat.{mod_below}
use Rattle.gh_pagetable.proofs.Runs.{AreNumbered-further, overwritten-run_none}
use Rattle.gh_pagetable.proofs.Steps.{set_more, table_more}
use Rattle.gh_pagetable.proofs.Tables.{length-table}
use Rattle.gh_pagetable.proofs.table.set.Goals as goal

pub loop-left-preserved : goal.loop-left-preserved
loop-left-preserved g c =
    let targets = g.E.Entry.targets in
    let pages = g.E.Entry.PAGES in
    let so_far = c.loop-left.invariant in
    let entries = c.loop-left.entries in
    let at' = c.loop-left.at in
    let left = c.loop-left.left in
    let next = c.loop-left.next in
    let part = c.min-part.result in
    let e' = c.set.new.self in
    let some : 0 < pages = g.met.E.Entry.some in
    let below = mod_below at' pages some in
    let picked = rw c.PAGES-pages.ensures at c.min-part.ensures in
    let written = rw c.PAGES-pages.ensures at c.set.ensures in
    let inside : at' % pages + part ≤ pages = omega arith in
    let fits : at' < 16 * pages = omega arith in
    let within : part ≤ left = omega arith in
    let more = set_more targets pages entries at' part left _ e' next so_far.table some inside fits written in
    rw (c.PAGES-pages.ensures, c.further-next.ensures) (record {
      table = table_more targets pages entries at' part left _ e' next so_far.table some inside fits written;
      inside = omega arith;
      machine = AreNumbered-further next part _ left (omega arith) so_far.machine;
      rest = more within so_far.inside ∙ so_far.rest;
    })

pub returns-clause-targets : goal.returns-clause-targets
returns-clause-targets g c =
    let so_far = c.loop-left.invariant in
    let size = length-table g.E.Entry.targets g.E.Entry.PAGES c.loop-left.entries so_far.table in
    let left = c.loop-left.left in
    let next = c.loop-left.next in
    let none = overwritten-run_none _ c.loop-left.at left next (rw size (omega arith)) (omega arith) in
    sym none ∙ so_far.rest
