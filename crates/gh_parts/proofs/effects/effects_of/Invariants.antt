-- What the changes so far give and take is named.
use Rattle.std.proofs.Common.{◌≡◌, take}
use Rattle.std.specs.List.{flat_map}
use Rattle.gh_invariant.specs.Effects.{gains, losses}
use Rattle.gh_parts.proofs.effects.effects_of.Given as goal

abbrev pub invariant-loop-at : goal.invariant-loop-at
invariant-loop-at g l =
    (l.gained ≡ flat_map (gains (g.R.StateReads.rows l.fn.rows)) (take l.at l.fn.changes))
    × (l.lost ≡ flat_map (losses (g.R.StateReads.rows l.fn.rows)) (take l.at l.fn.changes))
