-- The whole is uniform exactly where the first entry says so and all leads on from there.
use Rattle.std.proofs.Common.{sym, ◌∙◌}
use Rattle.gh_pagetable.proofs.Steps.{split-first, uniform-first}
use Rattle.gh_pagetable.proofs.table.describe.Goals as goal

pub returns-in-Uniform-clause-value : goal.returns-in-Uniform-clause-value
returns-in-Uniform-clause-value g c =
    let some = g.met.E.Entry.some in
    let says = sym c.descriptor.ensures.value ∙ c.in-Uniform.is in
    let led = sym c.leads_on.ensures.value ∙ c.if-leads_on.true in
    let read = c.index-entries-0.is in
    let whole = uniform-first g.E.Entry.targets g.E.Entry.PAGES _ _ _ c.requires some read says in
    sym (rw led at whole)

pub returns-in_default-clause-value : goal.returns-in_default-clause-value
returns-in_default-clause-value g c =
    let some = g.met.E.Entry.some in
    let says = sym c.descriptor.ensures.value ∙ c.in-Uniform.is in
    let led = sym c.leads_on.ensures.value ∙ c.if-leads_on.false in
    let read = c.index-entries-0.is in
    let whole = uniform-first g.E.Entry.targets g.E.Entry.PAGES _ _ _ c.requires some read says in
    sym (rw led at whole)

pub returns-in_default-2-clause-value : goal.returns-in_default-2-clause-value
returns-in_default-2-clause-value g c =
    let some = g.met.E.Entry.some in
    let says = sym c.descriptor.ensures.value ∙ c.in_default.is in
    sym (split-first g.E.Entry.targets g.E.Entry.PAGES _ _ c.requires some c.index-entries-0.is says)
