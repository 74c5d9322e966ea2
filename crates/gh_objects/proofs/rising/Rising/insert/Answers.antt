-- The list rises with the serial at its place.
use Rattle.std.proofs.Common.{arith, ap, ◌∙◌}
use Rattle.gh_objects.specs.Serials.{with_serial}
use Rattle.gh_objects.proofs.RisingLemmas.{insert-place_in, IsNonDecreasingBy-insert_place}
use Rattle.gh_objects.proofs.rising.Rising.insert.Goals as goal

pub insert-requires : goal.insert-requires
insert-requires c = omega (arith, c.place_of-at.ensures.within, c.as_slice.ensures.len)

pub invariant_of-self : goal.invariant_of-self
invariant_of-self c =
    let items = rw (c.unwrap.ensures, c.place_of-at.ensures.place, c.as_slice.ensures.value) at c.insert.ensures.items in
    record {
      order = rw items (IsNonDecreasingBy-insert_place c.args.serial c.self.inside.serials.items c.self.invariant.order);
      room = omega (arith, c.insert.ensures.capacity, c.self.invariant.room);
    }

pub returns : goal.returns
returns c =
    let items = rw (c.unwrap.ensures, c.place_of-at.ensures.place, c.as_slice.ensures.value) at c.insert.ensures.items in
    items ∙ insert-place_in c.args.serial c.self.inside.serials.items ∙ ap (with_serial c.args.serial) c.self.view_is
