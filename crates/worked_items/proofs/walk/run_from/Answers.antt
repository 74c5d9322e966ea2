-- Behind the last row the walk is at its end.
use Rattle.std.proofs.Common.{◌≡◌, ℕ, arith, length, subst}
use Rattle.worked_items.specs.Walk.{GoesOn, conf_at}
use Rattle.worked_items.proofs.walk.run_from.Goals as goal

pub returns : goal.returns
returns g c =
    subst (λ (n : ℕ). GoesOn c.loop-at.progress (conf_at g.conf c.args.rows.now n))
    (let all : c.loop-at.at ≡ length c.args.rows.now = omega (arith, c.loop-at.auto.at-end, c.loop-at-test.false) in all)
    c.loop-at.invariant.goes_on
