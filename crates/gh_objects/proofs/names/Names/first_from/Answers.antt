-- The least name that isn't less stands at the place of the name.
use Rattle.gh_objects.proofs.NamesLemmas.{first-there, first-from, first-least}
use Rattle.gh_objects.proofs.names.Names.first_from.Goals as goal

pub returns : goal.returns
returns c =
    let names = c.self.inside.names.items in
    let up = c.self.invariant.order in
    let place = rw c.as_slice.ensures.value at c.place_of-at.ensures.place in
    let found = rw (c.as_slice-2.ensures.value, place) at c.nth.ensures in
    rw (found, ← c.self.view_is) (record {
      there = first-there c.args.name names up;
      from = first-from c.args.name names up;
      least = first-least c.args.name names up;
    })
