-- The list rises without the serial, which stood at its place.
use Rattle.std.proofs.Common.{arith, ◌∙◌}
use Rattle.gh_objects.proofs.ListLemmas.{IsNonDecreasingBy-remove}
use Rattle.gh_objects.proofs.RisingLemmas.{remove-place_in}
use Rattle.gh_objects.specs.Serials.{number}
use Rattle.gh_objects.proofs.rising.Rising.remove.Goals as goal

pub remove-requires : goal.remove-requires
remove-requires c =
    omega (arith, c.place_of-at.ensures.there (rw (c.as_slice.ensures.value, c.self.view_is) c.requires), c.as_slice.ensures.len)

pub invariant_of-self : goal.invariant_of-self
invariant_of-self c =
    let there = rw c.as_slice.ensures.value at (c.place_of-at.ensures.there (rw (c.as_slice.ensures.value, c.self.view_is) c.requires)) in
    record {
      order = rw c.remove.ensures.items (IsNonDecreasingBy-remove number c.self.inside.serials.items c.place_of-at.result c.self.invariant.order there);
      room = omega (arith, c.remove.ensures.capacity, c.self.invariant.room);
    }

pub returns-clause-rest : goal.returns-clause-rest
returns-clause-rest c rest put =
    let items = rw (c.place_of-at.ensures.place, c.as_slice.ensures.value, c.self.view_is ∙ put) at c.remove.ensures.items in
    items ∙ remove-place_in c.args.serial rest
