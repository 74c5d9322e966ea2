-- The list rises with the name at its place.
use Rattle.std.proofs.Common.{arith, ap, ◌∙◌, ◌+◌, eqb}
use Rattle.gh_objects.specs.Names.{times, once_if}
use Rattle.gh_objects.proofs.NamesLemmas.{IsNonDecreasingBy-insert_place, times-insert}
use Rattle.gh_objects.proofs.names.Names.insert.Goals as goal

pub insert-requires : goal.insert-requires
insert-requires c = omega (arith, c.place_of-at.ensures.within, c.as_slice.ensures.len)

pub invariant_of-self : goal.invariant_of-self
invariant_of-self c =
    let items = rw (c.unwrap.ensures, c.place_of-at.ensures.place, c.as_slice.ensures.value) at c.insert.ensures.items in
    record {
      order = rw items (IsNonDecreasingBy-insert_place c.args.name c.self.inside.names.items c.self.invariant.order);
      room = omega (arith, c.insert.ensures.capacity, c.self.invariant.room);
    }

pub returns-clause-each : goal.returns-clause-each
returns-clause-each c other =
    let items = rw c.unwrap.ensures at c.insert.ensures.items in
    ap (λ names. times names other) items
    ∙ times-insert c.self.inside.names.items c.place_of-at.result c.args.name other
    ∙ ap (λ names. times names other + once_if (eqb other c.args.name)) c.self.view_is
