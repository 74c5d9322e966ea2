-- The bit of the index, the name and the number of the kind follow the header.
use Rattle.std.proofs.Common.{List, Option, not, sym, ap, ◌∙◌}
use Rattle.std.proofs.Math.Bool.{not-not}
use Rattle.gh_objects.specs.declared.header.Header.{Header}
use Rattle.gh_objects.specs.Headers.{header_at}
use Rattle.gh_objects.specs.Names.{name_at}
use Rattle.gh_objects.proofs.KindsLemmas.{AreCounted-set, counted_few, counted_some}
use Rattle.gh_objects.proofs.NamesLemmas.{named, room-names, AreNamed-set}
use Rattle.gh_objects.proofs.TableLemmas.{IsMarked-set}
use Rattle.gh_objects.proofs.table.Table.set.Goals as goal

pub rename-requires : goal.rename-requires
rename-requires c =
    let headers = c.self.inside.headers.items in
    let names = c.self.inside.names in
    let was = c.get-old.ensures ∙ ap (λ (hs : List (Option Header)). header_at hs c.args.index) (sym c.self.view_is) in
    let old = c.name_at.ensures ∙ ap (name_at c.args.index) was in
    record {
      there = rw old (named headers names c.self.invariant.marked.indices c.self.invariant.named c.args.index c.requires);
      room = rw old (room-names headers names c.self.invariant.marked.indices c.self.invariant.named c.args.index c.requires);
    }

pub lower-requires : goal.lower-requires
lower-requires c =
    let headers = c.self.inside.headers.items in
    let was = c.get-old.ensures ∙ ap (λ (hs : List (Option Header)). header_at hs c.args.index) (sym c.self.view_is) in
    rw was (counted_some headers c.self.inside.kinds c.self.invariant.marked.indices c.self.invariant.counted c.args.index)

pub raise-requires : goal.raise-requires
raise-requires c =
    let headers = c.self.inside.headers.items in
    let was = c.get-old.ensures ∙ ap (λ (hs : List (Option Header)). header_at hs c.args.index) (sym c.self.view_is) in
    rw (c.lower.ensures, was)
    (counted_few headers c.self.inside.kinds c.self.invariant.marked.indices c.self.invariant.counted c.args.index c.args.header)

pub invariant_of-self : goal.invariant_of-self
invariant_of-self c =
    let headers = c.self.inside.headers.items in
    let names = c.self.inside.names in
    let was = c.get-old.ensures ∙ ap (λ (hs : List (Option Header)). header_at hs c.args.index) (sym c.self.view_is) in
    let old = c.name_at.ensures ∙ ap (name_at c.args.index) was in
    record {
      marked =
          IsMarked-set _ _ c.args.index _ c.args.header c.self.invariant.marked c.requires
          (ap not c.is_none.ensures ∙ not-not c.is_none.result ∙ c.with_place.ensures.here) c.with_place.ensures.others;
      named =
          AreNamed-set headers names c.self.invariant.marked.indices c.self.invariant.named _ c.args.index c.args.header c.requires
          (rw (old, c.name_at-2.ensures) at c.rename.ensures);
      counted =
          rw (c.raise.ensures, c.lower.ensures, was)
          (AreCounted-set headers c.self.inside.kinds c.self.invariant.marked.indices c.self.invariant.counted c.args.index c.args.header c.requires);
    }
