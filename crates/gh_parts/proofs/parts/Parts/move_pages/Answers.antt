-- No page has moved before the loop, and all have behind it.
use Rattle.std.proofs.Common.{ℕ, arith, subst, sym}
use Rattle.gh_model.specs.Changes.{move_run}
use Rattle.gh_parts.specs.PageMoves.{CanMove}
use Rattle.gh_parts.specs.Stands.{Stands}
use Rattle.gh_parts.proofs.MoveLemmas.{move_none}
use Rattle.gh_parts.proofs.StandsRun.{may_move}
use Rattle.gh_parts.proofs.parts.Parts.move_pages.Goals as goal

pub loop-done-init : goal.loop-done-init
loop-done-init g c =
    let can : CanMove g.s c.args.first c.args.count c.args.holder =
    may_move g.s c.args.first c.args.count c.args.holder c.requires.valid c.requires.may in
    record {
      within = omega arith;
      stands = subst (Stands c.args.self.now) (sym (move_none c.args.first c.args.holder g.s (omega (arith, can.within)))) c.requires.stands;
    }

pub move_next-done-requires : goal.move_next-done-requires
move_next-done-requires g c = (
  c.loop-done.invariant.stands,
  (c.loop-done-test.true, may_move g.s c.args.first c.args.count c.args.holder c.requires.valid c.requires.may),
)

pub returns : goal.returns
returns g c =
    subst (λ (done : ℕ). Stands c.loop-done.self (move_run c.args.first done c.args.holder g.s))
    (omega (arith, c.loop-done.invariant.within, c.loop-done-test.false)) c.loop-done.invariant.stands
