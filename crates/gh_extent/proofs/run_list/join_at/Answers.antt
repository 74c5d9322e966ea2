-- Two runs of one holder are one.
use Rattle.std.proofs.Common.{◌≡◌, ◌+◌, arith, ap, sym, ◌∙◌, add-one}
use Rattle.std.proofs.lemmas.Bool.{eqb-true}
use Rattle.std.proofs.lemmas.List.{get_or_default}
use Rattle.gh_extent.specs.declared.run_list.Run.{Run}
use Rattle.gh_extent.proofs.RunLemmas.{spread-join, Rising-join, same_serial}
use Rattle.gh_extent.proofs.run_list.join_at.Goals as goal

pub returns-then-eq-clause-same : goal.returns-then-eq-clause-same
returns-then-eq-clause-same c =
    let items = c.args.runs.now.items in
    let at' = c.args.at in
    let d = c.index.result.now in
    let e = c.index-then-at-len.result.now in
    let there = add-one at' in
    let next = get_or_default items (at' + 1) e d (omega arith) in
    let numbers = eqb-true _ _ (sym c.eq.ensures ∙ c.if-eq.true) in
    let same : d.holder ≡ e.holder = same_serial d.holder e.holder numbers in
    let first = ap (λ (r : Run). r.holder) c.index.ensures in
    let second = ap (λ (r : Run). r.holder) (c.index-then-at-len.ensures ∙ next) in
    let joined = spread-join items 0 at' d c.requires.order (omega arith) (sym first ∙ same ∙ rw there at second) in
    rw c.remove.ensures.items joined

pub returns-then-eq-clause-order : goal.returns-then-eq-clause-order
returns-then-eq-clause-order c =
    rw c.remove.ensures.items (Rising-join c.args.runs.now.items 0 c.args.at c.requires.order)
