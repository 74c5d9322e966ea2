-- What the changes so far give and take is a part of what all do.
use Rattle.std.proofs.Common.{List, length, subst, sym, ◌≤◌}
use Rattle.gh_base.specs.declared.ids.Serial.{Serial}
use Rattle.gh_invariant.specs.Effects.{gains, losses}
use Rattle.gh_parts.proofs.ToldLemmas.{room_next}
use Rattle.gh_parts.specs.declared.referred.TheConstants.{REFERRED}
use Rattle.gh_parts.proofs.effects.effects_of.Goals as goal

pub append-requires : goal.append-requires
append-requires g c =
    room_next (gains (g.R.StateReads.rows c.args.rows.now)) c.args.changes.now c.loop-at.at REFERRED c.index-changes-at.result
    c.loop-at.gained c.gains.result c.loop-at-test.true c.index-changes-at.is c.loop-at.invariant.0 c.gains.ensures
    (subst (λ (all : List Serial). length all ≤ REFERRED) (sym c.requires.told.gives) c.requires.told.gives_few)

pub append-requires-in-loop-at : goal.append-requires-in-loop-at
append-requires-in-loop-at g c =
    room_next (losses (g.R.StateReads.rows c.args.rows.now)) c.args.changes.now c.loop-at.at REFERRED c.index-changes-at-in-loop-at.result
    c.loop-at.lost c.losses.result c.loop-at-test.true c.index-changes-at-in-loop-at.is c.loop-at.invariant.1 c.losses.ensures
    (subst (λ (all : List Serial). length all ≤ REFERRED) (sym c.requires.told.takes) c.requires.told.takes_few)
