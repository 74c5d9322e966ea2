-- Each share is changed in turn.
use Rattle.std.proofs.Common.{◌<◌, List, [], arith, length, refl, subst}
use Rattle.std.proofs.lemmas.List.{get_or_default}
use Rattle.gh_parts.specs.PageMoves.{Follows, ShareChanges}
use Rattle.gh_parts.specs.declared.shares.Place.{Place}
use Rattle.gh_parts.proofs.Pointwise.{changed_all, changed_more, changed_none}
use Rattle.gh_parts.proofs.shares.follow_shares.Goals as goal

pub loop-at-init : goal.loop-at-init
loop-at-init c = changed_none (ShareChanges (Follows c.args.from.0 c.args.to c.args.first c.args.count)) [] c.args.shares.now

pub loop-at-preserved : goal.loop-at-preserved
loop-at-preserved c =
    let within : c.loop-at.at < length c.loop-at.shares = omega (arith, c.loop-at-test.true, c.loop-at.auto.shares) in
    changed_more (ShareChanges (Follows c.args.from.0 c.args.to c.args.first c.args.count)) [] c.args.shares.now c.loop-at.shares
    c.loop-at.at _ within c.loop-at.invariant
    (subst (λ (share : List Place). ShareChanges (Follows c.args.from.0 c.args.to c.args.first c.args.count) share c.follow.new.self)
    (get_or_default c.loop-at.shares c.loop-at.at c.index-shares-at.result [] within) c.follow.ensures)

pub returns : goal.returns
returns c = record {
  shares = c.loop-at.invariant.same;
  each =
      changed_all (ShareChanges (Follows c.args.from.0 c.args.to c.args.first c.args.count)) [] c.args.shares.now c.loop-at.shares
      c.loop-at.at (omega (arith, c.loop-at-test.false, c.loop-at.auto.shares)) c.loop-at.invariant
      (record { places = refl; each = λ at. record { cost = refl; body = refl } });
}
