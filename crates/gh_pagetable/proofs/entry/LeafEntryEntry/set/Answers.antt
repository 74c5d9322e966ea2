-- A run that is one page is all of a page.
use Rattle.std.proofs.Common.{◌≡◌, [], ◌∷◌, arith, refl, sym}
use Rattle.gh_pagetable.specs.Entry.{run}
use Rattle.gh_pagetable.proofs.Overwriting.{overwritten-whole}
use Rattle.gh_pagetable.proofs.entry.LeafEntryEntry.set.Goals as goal

pub returns : goal.returns
unfolding run
returns c =
    let one : c.args._count ≡ 1 = omega arith in
    let old = c.args.self.now ∷ [] in
    rw one (sym (overwritten-whole old (c.args.target ∷ []) c.args._first refl (omega arith)))
