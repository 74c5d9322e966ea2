-- The run of the page is parted, unless it begins there.
use Rattle.std.proofs.Common.{◌<◌, arith}
use Rattle.std.proofs.Common.{vec_len, vec_capacity, ◌∙◌}
use Rattle.gh_extent.proofs.RunLemmas.{parted-same, parted-order, parted-room}
use Rattle.gh_extent.proofs.RunLemmas.{parted-place, parted-begins, place-within}
use Rattle.gh_extent.proofs.run_list.part_at.Goals as goal

pub index-requires : goal.index-requires
index-requires c =
    let items = c.args.runs.now.items in
    let page = c.args.page in
    let place = rw c.deref.ensures.value at c.place_of-at.ensures.place in
    let there = place-within items 0 page page c.requires.order (omega arith) c.requires.within in
    omega (arith, there, place)

pub unwrap-requires : goal.unwrap-requires
unwrap-requires c =
    let items = c.args.runs.now.items in
    let d = c.index.result.now in
    let place = rw c.deref.ensures.value at c.place_of-at.ensures.place in
    let begins = rw c.deref-2.ensures.value at c.start_of.ensures in
    let room = parted-room items c.place_of-at.result c.args.page d c.requires.order place c.index.ensures c.requires.within
    (λ same. c.if-start_of-page.false (begins ∙ same)) in
    let less : vec_len c.args.runs.now < vec_capacity c.args.runs.now = omega (arith, room, c.requires.room) in
    c.insert.ensures.succeeds less

pub returns-clause-same : goal.returns-clause-same
returns-clause-same c =
    let items = c.args.runs.now.items in
    let d = c.index.result.now in
    let place = rw c.deref.ensures.value at c.place_of-at.ensures.place in
    let begins = rw c.deref-2.ensures.value at c.start_of.ensures in
    let made = rw c.unwrap.ensures at c.insert.ensures.items in
    rw made (parted-same items c.place_of-at.result c.args.page d c.requires.order place c.index.ensures c.requires.within
    (λ same. c.if-start_of-page.false (begins ∙ same)))

pub returns-clause-order : goal.returns-clause-order
returns-clause-order c =
    let items = c.args.runs.now.items in
    let d = c.index.result.now in
    let place = rw c.deref.ensures.value at c.place_of-at.ensures.place in
    let begins = rw c.deref-2.ensures.value at c.start_of.ensures in
    let made = rw c.unwrap.ensures at c.insert.ensures.items in
    rw made (parted-order items c.place_of-at.result c.args.page d c.requires.order place c.index.ensures c.requires.within
    (λ same. c.if-start_of-page.false (begins ∙ same)))

pub returns-clause-place : goal.returns-clause-place
returns-clause-place c =
    let items = c.args.runs.now.items in
    let d = c.index.result.now in
    let place = rw c.deref.ensures.value at c.place_of-at.ensures.place in
    let begins = rw c.deref-2.ensures.value at c.start_of.ensures in
    let made = rw c.unwrap.ensures at c.insert.ensures.items in
    rw made (parted-place items c.place_of-at.result c.args.page d c.requires.order place c.index.ensures c.requires.within
    (λ same. c.if-start_of-page.false (begins ∙ same)))

pub returns-clause-begins : goal.returns-clause-begins
returns-clause-begins c =
    let items = c.args.runs.now.items in
    let d = c.index.result.now in
    let place = rw c.deref.ensures.value at c.place_of-at.ensures.place in
    let begins = rw c.deref-2.ensures.value at c.start_of.ensures in
    let made = rw c.unwrap.ensures at c.insert.ensures.items in
    rw made (parted-begins items c.place_of-at.result c.args.page d c.requires.order place c.index.ensures c.requires.within
    (λ same. c.if-start_of-page.false (begins ∙ same)))
