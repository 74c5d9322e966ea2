-- The pages' runs are one run of the new holder, joined to those beside it.
use Rattle.std.proofs.Common.{arith, ap, ◌∙◌, length}
use Rattle.gh_extent.proofs.RunLemmas.{given-order, given-pages, given-places, given-room}
use Rattle.gh_extent.proofs.run_list.give.Goals as goal

pub replace-requires-clause-order : goal.replace-requires-clause-order
replace-requires-clause-order c =
    let rs = c.part_at-from.new.runs.items in
    let parted = c.part_at-from.ensures in
    let to = rw c.deref.ensures.value at c.place_of-to.ensures.place in
    let within = rw (← parted.same) at c.requires.within in
    given-places rs c.args.first c.args.end _ _ c.args.holder parted.order parted.place to parted.begins c.requires.some within

pub replace-requires-clause-room : goal.replace-requires-clause-room
replace-requires-clause-room c =
    let rs = c.part_at-from.new.runs.items in
    let parted = c.part_at-from.ensures in
    let to = rw c.deref.ensures.value at c.place_of-to.ensures.place in
    let within = rw (← parted.same) at c.requires.within in
    let room = given-room rs c.args.first c.args.end _ _ c.args.holder parted.order parted.place to parted.begins c.requires.some within in
    omega (arith, room, ap length parted.same, parted.room, c.requires.room)

pub join_beside-requires-clause-order : goal.join_beside-requires-clause-order
join_beside-requires-clause-order c =
    let rs = c.part_at-from.new.runs.items in
    let parted = c.part_at-from.ensures in
    let to = rw c.deref.ensures.value at c.place_of-to.ensures.place in
    let within = rw (← parted.same) at c.requires.within in
    rw c.replace.ensures.items
    (given-order rs c.args.first c.args.end _ _ c.args.holder parted.order parted.place to parted.begins c.requires.some within)

pub returns-clause-given : goal.returns-clause-given
returns-clause-given c =
    let rs = c.part_at-from.new.runs.items in
    let parted = c.part_at-from.ensures in
    let to = rw c.deref.ensures.value at c.place_of-to.ensures.place in
    let within = rw (← parted.same) at c.requires.within in
    let given = given-pages rs c.args.first c.args.end _ _ c.args.holder parted.order parted.place to parted.begins c.requires.some within in
    c.join_beside.ensures.same ∙ rw c.replace.ensures.items (rw parted.same at given)
