-- The entry says of its range what the range is.
use Rattle.std.proofs.Common.{◌*◌, ◌<◌, arith, sym}
use Rattle.gh_pagetable.proofs.Entries.{descriptor_of-shown}
use Rattle.gh_pagetable.proofs.upper.UpperEntryEntry.descriptor.Goals as goal

pub returns-clause-value : goal.returns-clause-value
returns-clause-value g c =
    let some : 0 < 16 * g.E.Entry.PAGES = omega (arith, g.met.E.Entry.some) in
    let says = descriptor_of-shown _ c.self.inside.descriptor _ some c.self.invariant.canonical in
    sym (rw c.self.view_is at says)
