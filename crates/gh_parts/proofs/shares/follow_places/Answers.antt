-- Each place is changed in turn.
use Rattle.std.proofs.Common.{◌≡◌, ◌<◌, ap, arith, get_or, length, refl, subst}
use Rattle.std.proofs.lemmas.List.{get_or_default}
use Rattle.gh_parts.specs.MappingChanges.{Remaps}
use Rattle.gh_parts.specs.PageMoves.{Follows, PlaceChanges}
use Rattle.gh_parts.specs.Shares.{no_place}
use Rattle.gh_parts.specs.declared.shares.Place.{Place}
use Rattle.gh_parts.proofs.Pointwise.{changed_all, changed_more, changed_none}
use Rattle.gh_parts.proofs.shares.follow_places.Goals as goal

pub loop-at-init : goal.loop-at-init
loop-at-init c = changed_none (PlaceChanges (Follows c.args.from.0 c.args.to c.args.first c.args.count)) no_place c.args.places.now

pub loop-at-preserved : goal.loop-at-preserved
loop-at-preserved c =
    let within : c.loop-at.at < length c.loop-at.places = omega (arith, c.loop-at-test.true, c.loop-at.auto.places) in
    let here : get_or c.loop-at.places c.loop-at.at c.index-places-at.result ≡ get_or c.loop-at.places c.loop-at.at no_place =
    get_or_default c.loop-at.places c.loop-at.at c.index-places-at.result no_place within in
    changed_more (PlaceChanges (Follows c.args.from.0 c.args.to c.args.first c.args.count)) no_place c.args.places.now c.loop-at.places
    c.loop-at.at _ within c.loop-at.invariant
    (record {
      cost = ap (λ (place : Place). place.cost) here;
      body =
          subst (λ (place : Place). Remaps (Follows c.args.from.0 c.args.to c.args.first c.args.count) place.body c.follow.new.body)
          here c.follow.ensures;
    })

pub returns : goal.returns
returns c = record {
  places = c.loop-at.invariant.same;
  each =
      changed_all (PlaceChanges (Follows c.args.from.0 c.args.to c.args.first c.args.count)) no_place c.args.places.now c.loop-at.places
      c.loop-at.at (omega (arith, c.loop-at-test.false, c.loop-at.auto.places)) c.loop-at.invariant
      (record { cost = refl; body = refl });
}
