-- An entry that leads on passes the test on to those after it, and any other ends it.
use Rattle.std.proofs.Common.{◌≡◌, ◌+◌, ◌*◌, arith, refl, sym, ◌∙◌, mul-zero}
use Rattle.std.proofs.lemmas.Bool.{false≢true}
use Rattle.gh_pagetable.specs.Entry.{AreNumbered}
use Rattle.gh_pagetable.proofs.Runs.{AreNumbered-fewer, AreNumbered-from}
use Rattle.gh_pagetable.proofs.Runs.{further-further, further-zero}
use Rattle.gh_pagetable.proofs.Steps.{leads_on_more, leads_on_stops}
use Rattle.gh_pagetable.proofs.table.leads_on.Goals as goal

pub loop-entry-init : goal.loop-entry-init
loop-entry-init g c = record {
  rest = refl;
  next = rw (mul-zero, further-zero);
  machine = AreNumbered-fewer c.args.target _ _ (omega arith) c.requires.machine;
}

pub loop-entry-preserved : goal.loop-entry-preserved
loop-entry-preserved g c =
    let pages = g.E.Entry.PAGES in
    let i = c.loop-entry.entry-index in
    let expected = c.loop-entry.expected in
    let so_far = c.loop-entry.invariant in
    let cover = c.requires.table.cover in
    let is_from = c.is_from.ensures.0 c.if-not-is_from.false in
    let says = sym c.descriptor.ensures.value ∙ is_from in
    let place : pages * (i + 1) ≡ pages * i + pages = omega arith in
    let there = c.loop-entry-test.true in
    let read = c.entry-item.is in
    let more = leads_on_more g.E.Entry.targets pages _ i _ expected cover there read says in
    let next = c.further-expected.ensures ∙ rw c.PAGES.ensures in
    let block : AreNumbered expected pages = rw is_from at c.descriptor.ensures.machine in
    record {
      rest = rw next (sym more ∙ so_far.rest);
      next = rw (next, so_far.next, further-further, place);
      machine = rw place (AreNumbered-from c.args.target (pages * i) pages (rw so_far.next at block));
    }

pub returns-then-not-is_from-clause-value : goal.returns-then-not-is_from-clause-value
returns-then-not-is_from-clause-value g c =
    let expected = c.loop-entry.expected in
    let cover = c.requires.table.cover in
    let some = g.met.E.Entry.some in
    let there = c.loop-entry-test.true in
    let is_not = sym c.if-not-is_from.true in
    let stops =
    leads_on_stops g.E.Entry.targets g.E.Entry.PAGES _ _ _ expected cover some there c.entry-item.is
    (λ says. false≢true (is_not ∙ c.is_from.ensures.1 (c.descriptor.ensures.value ∙ says))) in
    sym (sym c.loop-entry.invariant.rest ∙ stops)
