-- Each index is the first of those that are left.
use Rattle.std.proofs.Common.{◌+◌, ◌∙◌, List, arith, drop, refl, slice_index_or, subst, sym}
use Rattle.std.proofs.Math.ListN.{drop_of_length-le}
use Rattle.gh_base.specs.declared.ids.ObjIndex.{ObjIndex}
use Rattle.gh_words.specs.Holding.{owing, owings}
use Rattle.gh_words.specs.Steady.{MakesAll, MayMake}
use Rattle.gh_words.proofs.Making.{drop_next, makes_first, makes_none, may_first, may_more}
use Rattle.gh_words.proofs.turns.owe_each.Goals as goal

pub loop-object-init : goal.loop-object-init
loop-object-init g c = record { can = c.requires.can; rest = λ later made. made; stays = omega arith; rings = refl }

pub owe-requires : goal.owe-requires
owe-requires g c = record {
  may = may_first (g.W.Words.shows c.loop-object.words) (owing (slice_index_or c.args.objects.now c.loop-object.object-index (record { 0 = 0 })) c.args.more)
      (owings (drop (c.loop-object.object-index + 1) c.args.objects.now) c.args.more)
      (subst (λ (left : List ObjIndex). MayMake (g.W.Words.shows c.loop-object.words) (owings left c.args.more))
      (drop_next c.args.objects.now c.loop-object.object-index (record { 0 = 0 }) c.loop-object-test.true) c.loop-object.invariant.can);
}

pub loop-object-preserved : goal.loop-object-preserved
loop-object-preserved g c = record {
  can = may_more g.W.Words.between (g.W.Words.shows c.loop-object.words) (g.W.Words.shows c.owe.new.self)
      (owing (slice_index_or c.args.objects.now c.loop-object.object-index (record { 0 = 0 })) c.args.more) c.owe.ensures.made
      (owings (drop (c.loop-object.object-index + 1) c.args.objects.now) c.args.more)
      (subst (λ (left : List ObjIndex). MayMake (g.W.Words.shows c.loop-object.words) (owings left c.args.more))
      (drop_next c.args.objects.now c.loop-object.object-index (record { 0 = 0 }) c.loop-object-test.true) c.loop-object.invariant.can);
  rest = λ later made.
      c.loop-object.invariant.rest later
      (subst (λ (left : List ObjIndex). MakesAll g.W.Words.between (g.W.Words.shows c.loop-object.words) (g.W.Words.shows later) (owings left c.args.more))
      (sym (drop_next c.args.objects.now c.loop-object.object-index (record { 0 = 0 }) c.loop-object-test.true))
      (makes_first g.W.Words.between (g.W.Words.shows c.loop-object.words) (g.W.Words.shows c.owe.new.self)
      (owing (slice_index_or c.args.objects.now c.loop-object.object-index (record { 0 = 0 })) c.args.more) c.owe.ensures.made
      (g.W.Words.shows later) (owings (drop (c.loop-object.object-index + 1) c.args.objects.now) c.args.more) made));
  stays = omega (arith, c.loop-object.invariant.stays, c.owe.ensures.stays);
  rings = c.owe.ensures.rings ∙ c.loop-object.invariant.rings;
}

pub returns-clause-made : goal.returns-clause-made
returns-clause-made g c =
    c.loop-object.invariant.rest c.loop-object.words
    (subst (λ (left : List ObjIndex). MakesAll g.W.Words.between (g.W.Words.shows c.loop-object.words) (g.W.Words.shows c.loop-object.words) (owings left c.args.more))
    (sym (drop_of_length-le c.args.objects.now (omega (arith, c.loop-object-test.false))))
    (makes_none g.W.Words.between (g.W.Words.shows c.loop-object.words)))

pub returns-clause-stays : goal.returns-clause-stays
returns-clause-stays g c = c.loop-object.invariant.stays

pub returns-clause-rings : goal.returns-clause-rings
returns-clause-rings g c = c.loop-object.invariant.rings
