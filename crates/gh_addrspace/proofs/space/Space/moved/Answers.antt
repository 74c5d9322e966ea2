-- Each row follows the pages that moved.
use Rattle.std.proofs.Common.{refl}
use Rattle.gh_addrspace.specs.Space.{Space}
use Rattle.gh_addrspace.proofs.SpaceLemmas.{followed-pages, followed-shows, followed-space}
use Rattle.gh_addrspace.proofs.space.Space.moved.Goals as goal

pub invariant_of-self : goal.invariant_of-self
invariant_of-self c =
    let s : Space = record { mappings = c.self.inside.mappings.items; pages = c.self.inside.table } in
    let went = rw c.deref.ensures.value at c.follow_all.ensures.followed in
    followed-space s c.args.from c.args.to c.args.first.0 c.args.count c.follow_all.new.table c.self.invariant went c.follow_all.ensures.size

pub returns-clause-followed : goal.returns-clause-followed
returns-clause-followed c =
    let s : Space = record { mappings = c.self.inside.mappings.items; pages = c.self.inside.table } in
    let went = rw c.deref.ensures.value at c.follow_all.ensures.followed in
    rw (← c.self.view_is) (record {
      rows = refl;
      pages = followed-pages s c.args.from c.args.to c.args.first.0 c.args.count c.follow_all.new.table c.self.invariant went c.follow_all.ensures.size;
    })

pub returns-clause-shows : goal.returns-clause-shows
returns-clause-shows c spans holders shows run =
    let s : Space = record { mappings = c.self.inside.mappings.items; pages = c.self.inside.table } in
    let went = rw c.deref.ensures.value at c.follow_all.ensures.followed in
    let before = rw (← c.self.view_is) at shows in
    followed-shows s c.args.from c.args.to c.args.first.0 c.args.count c.follow_all.new.table c.self.invariant went c.follow_all.ensures.size spans holders before run
