-- A page's holder is that of its run.
use Rattle.std.proofs.Common.{◌<◌, length, Some, arith, sym, ap, ◌∙◌}
use Rattle.gh_extent.specs.Runs.{spread}
use Rattle.gh_extent.specs.declared.run_list.Run.{Run}
use Rattle.gh_extent.proofs.RunLemmas.{holder_at, place-within}
use Rattle.gh_extent.proofs.runs.Runs.holder.Goals as goal

pub index-requires : goal.index-requires
index-requires c =
    let items = c.self.inside.runs.items in
    let page = c.args.page in
    let within : page < length (spread 0 items) = rw c.self.view_is c.requires in
    let place = rw c.deref.ensures.value at c.place_of.ensures.place in
    omega (arith, place, place-within items 0 page page c.self.invariant.rise (omega arith) within)

pub returns : goal.returns
returns c =
    let items = c.self.inside.runs.items in
    let page = c.args.page in
    let d = c.index.result.now in
    let within : page < length (spread 0 items) = rw c.self.view_is c.requires in
    let place = rw c.deref.ensures.value at c.place_of.ensures.place in
    let found = holder_at items 0 page page d c.self.invariant.rise (omega arith) within in
    let read = ap (λ (r : Run). Some r.holder) (rw place at c.index.ensures) in
    rw (← c.self.view_is) (found ∙ sym read)
