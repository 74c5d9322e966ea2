-- The chosen rows and their pages are gone.
use Rattle.gh_addrspace.specs.Space.{Space}
use Rattle.gh_addrspace.proofs.SpaceLemmas.{left-pages, left-shows, left-space}
use Rattle.gh_addrspace.proofs.space.Space.take_away.Goals as goal

pub invariant_of-self : goal.invariant_of-self
invariant_of-self c =
    let s : Space = record { mappings = c.self.inside.mappings.items; pages = c.self.inside.table } in
    let hidden = rw c.deref.ensures.value at c.hide_chosen.ensures.hidden in
    rw c.remove_chosen.ensures (left-space s c.args.chosen c.hide_chosen.new.table c.self.invariant hidden c.hide_chosen.ensures.size)

pub returns-clause-left : goal.returns-clause-left
returns-clause-left c =
    let s : Space = record { mappings = c.self.inside.mappings.items; pages = c.self.inside.table } in
    let hidden = rw c.deref.ensures.value at c.hide_chosen.ensures.hidden in
    rw (← c.self.view_is) (record {
      rows = c.remove_chosen.ensures;
      pages = left-pages s c.args.chosen c.hide_chosen.new.table c.self.invariant hidden c.hide_chosen.ensures.size;
    })

pub returns-clause-shows : goal.returns-clause-shows
returns-clause-shows c spans holders shows =
    let s : Space = record { mappings = c.self.inside.mappings.items; pages = c.self.inside.table } in
    let hidden = rw c.deref.ensures.value at c.hide_chosen.ensures.hidden in
    let before = rw (← c.self.view_is) at shows in
    rw c.remove_chosen.ensures
    (left-shows s c.args.chosen c.hide_chosen.new.table c.self.invariant hidden c.hide_chosen.ensures.size spans holders before)
