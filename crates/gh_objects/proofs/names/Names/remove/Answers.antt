-- The list rises without the name, which stood at its place.
use Rattle.std.proofs.Common.{◌≡◌, ◌<◌, length, get_or}
use Rattle.std.proofs.Common.{arith, ap, ◌∙◌, ◌+◌, eqb}
use Rattle.gh_objects.specs.Names.{itself, times, once_if}
use Rattle.gh_objects.proofs.ListLemmas.{IsNonDecreasingBy-remove}
use Rattle.gh_objects.proofs.NamesLemmas.{stands, times-remove}
use Rattle.gh_objects.proofs.names.Names.remove.Goals as goal

pub remove-requires : goal.remove-requires
remove-requires c =
    let names = c.self.inside.names.items in
    let place = rw c.as_slice.ensures.value at c.place_of-at.ensures.place in
    omega (arith, place, (stands c.args.name names c.self.invariant.order 0 (rw c.self.view_is c.requires)).0)

pub invariant_of-self : goal.invariant_of-self
invariant_of-self c =
    let names = c.self.inside.names.items in
    let place = rw c.as_slice.ensures.value at c.place_of-at.ensures.place in
    let within : c.place_of-at.result < length names = omega (arith, place, (stands c.args.name names c.self.invariant.order 0 (rw c.self.view_is c.requires)).0) in
    record {
      order = rw c.remove.ensures.items (IsNonDecreasingBy-remove itself names c.place_of-at.result c.self.invariant.order within);
      room = omega (arith, c.remove.ensures.capacity, c.self.invariant.room);
    }

pub returns-clause-each : goal.returns-clause-each
returns-clause-each c other =
    let names = c.self.inside.names.items in
    let place = rw c.as_slice.ensures.value at c.place_of-at.ensures.place in
    let found = stands c.args.name names c.self.invariant.order 0 (rw c.self.view_is c.requires) in
    let within : c.place_of-at.result < length names = omega (arith, place, found.0) in
    let there : get_or names c.place_of-at.result 0 ≡ c.args.name = ap (λ at. get_or names at 0) place ∙ found.1 in
    ap (λ ns. times ns other + once_if (eqb other c.args.name)) c.remove.ensures.items
    ∙ times-remove names c.place_of-at.result c.args.name 0 other within there
    ∙ ap (λ ns. times ns other) c.self.view_is
