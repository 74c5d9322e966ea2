-- The new row overlaps none, and so its pages led nowhere before.
use Rattle.std.proofs.Common.{refl, arith, sym, ◌∙◌}
use Rattle.gh_addrspace.specs.Rows.{IsBounded, mapping_of}
use Rattle.gh_addrspace.specs.Space.{Space}
use Rattle.gh_addrspace.proofs.RowLemmas.{uncovered}
use Rattle.gh_addrspace.proofs.SpaceLemmas.{pushed-shows, pushed-space}
use Rattle.gh_addrspace.proofs.space.Space.map.Goals as goal

pub show-requires-clause-bare : goal.show-requires-clause-bare
show-requires-clause-bare g c v covered =
    let free = rw (c.in_default.is, ← c.self.view_is) at c.map_refusal.ensures.free in
    c.self.invariant.bare v (uncovered c.args.row v c.self.inside.mappings.items free covered)

pub invariant_of-self-2 : goal.invariant_of-self-2
invariant_of-self-2 g c =
    let s : Space = record { mappings = c.self.inside.mappings.items; pages = c.self.inside.table } in
    let m = mapping_of c.args.row c.unwrap-span.result in
    let free = rw (c.in_default.is, ← c.self.view_is) at c.map_refusal.ensures.free in
    let fits = rw (← c.span.ensures, c.unwrap-span.ensures) at c.requires in
    let bounded : IsBounded m = record {
      space = rw c.in_default.is at c.map_refusal.ensures.space;
      machine = omega (arith, fits, rw c.in_default.is at c.map_refusal.ensures.span);
    } in
    rw c.in_ok-push.ensures.items
    (pushed-space s m (g.H.Holders.holders c.args.holders.now) c.show.new.table c.self.invariant bounded free c.show.ensures.shown c.show.ensures.size)

pub returns-clause-shows : goal.returns-clause-shows
returns-clause-shows g c shows =
    let s : Space = record { mappings = c.self.inside.mappings.items; pages = c.self.inside.table } in
    let m = mapping_of c.args.row c.unwrap-span.result in
    let free = rw (c.in_default.is, ← c.self.view_is) at c.map_refusal.ensures.free in
    let fits = rw (← c.span.ensures, c.unwrap-span.ensures) at c.requires in
    let bounded : IsBounded m = record {
      space = rw c.in_default.is at c.map_refusal.ensures.space;
      machine = omega (arith, fits, rw c.in_default.is at c.map_refusal.ensures.span);
    } in
    let before = rw (← c.self.view_is) at shows in
    rw c.in_ok-push.ensures.items
    (pushed-shows s m (g.H.Holders.holders c.args.holders.now) c.show.new.table c.self.invariant bounded free c.show.ensures.shown c.show.ensures.size
    (g.H.Holders.span_of c.args.holders.now) c.unwrap-span.result (sym c.span.ensures ∙ c.unwrap-span.ensures) refl before)
