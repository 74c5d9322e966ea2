-- From a page on lie its run and those behind it.
use Rattle.std.proofs.Common.{◌≤◌, length, arith}
use Rattle.std.proofs.lemmas.List.{take_rest}
use Rattle.gh_extent.specs.Runs.{spread}
use Rattle.gh_extent.proofs.RunLemmas.{Rising-from, spread-from}
use Rattle.gh_extent.proofs.runs.Runs.held_from.Goals as goal

pub held_to-requires : goal.held_to-requires
held_to-requires c =
    let items = c.self.inside.runs.items in
    rw (take_rest, c.deref-2.ensures.value, c.place_of-at.ensures.place, c.deref.ensures.value)
    (Rising-from items 0 c.args.first c.self.invariant.rise)

pub returns : goal.returns
returns c =
    let items = c.self.inside.runs.items in
    let first = c.args.first in
    let within : first ≤ length (spread 0 items) = rw c.self.view_is c.requires in
    let behind = spread-from items 0 first first c.self.invariant.rise (omega arith) within in
    let held = rw (take_rest, c.deref-2.ensures.value, c.place_of-at.ensures.place, c.deref.ensures.value, ← behind, c.self.view_is) at c.held_to.ensures in
    omega (arith, held)
