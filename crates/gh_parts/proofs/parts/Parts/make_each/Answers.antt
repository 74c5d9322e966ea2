-- The next change is made in the state that those before it made.
use Rattle.std.proofs.Common.{subst, sym, take}
use Rattle.gh_model.specs.Changes.{changed, changed_all}
use Rattle.gh_parts.specs.MakingAll.{MadeBefore}
use Rattle.gh_parts.specs.Stands.{Stands}
use Rattle.gh_parts.specs.declared.parts.Parts.{Parts}
use Rattle.gh_parts.proofs.MakingLemmas.{at_err, makeable_at, step_next}
use Rattle.gh_parts.proofs.parts.Parts.make_each.Goals as goal

pub loop-at-init : goal.loop-at-init
loop-at-init g c = c.requires.stands

pub make_at-requires : goal.make_at-requires
make_at-requires g c = (
  c.loop-at.invariant,
  makeable_at c.args.self.now c.loop-at.self g.s c.args.changes.now c.loop-at.at c.requires c.loop-at.invariant,
)

pub loop-at-preserved : goal.loop-at-preserved
loop-at-preserved g c =
    subst (Stands c.make_at.new.self) (step_next changed g.s c.args.changes.now c.loop-at.at c.loop-at-test.true)
    c.in_ok-make_at.ensures.ok

pub returns-in_err-make_at-clause-err : goal.returns-in_err-make_at-clause-err
returns-in_err-make_at-clause-err g c =
    at_err c.from_residual.result (MadeBefore c.make_at.new.self g.s c.args.changes.now) (record {
      made = c.loop-at.at;
      next = c.in_err-make_at.ensures.memory;
      stands = subst (λ (parts : Parts). Stands parts (changed_all g.s (take c.loop-at.at c.args.changes.now)))
          (sym c.in_err-make_at.ensures.err) c.loop-at.invariant;
    })
