-- Without memory the change of stage is taken back.
use Rattle.std.proofs.Common.{◌≡◌, ◌∙◌, true, ap, subst}
use Rattle.std.specs.List.{list_any}
use Rattle.gh_parts.specs.MakingAll.{MadeBefore, restored, staged, wants_memory}
use Rattle.gh_parts.specs.Stands.{Stands}
use Rattle.gh_parts.proofs.MakingLemmas.{at_err}
use Rattle.gh_parts.proofs.StageLemmas.{made_first, restored_back, said, wanted}
use Rattle.gh_parts.proofs.parts.Parts.make_all.Goals as goal

pub restore-requires : goal.restore-requires
restore-requires g c =
    made_first c.make_each-made.new.self g.s c.args.changes.now c.requires.1
    (said c.make_each-made.result (MadeBefore c.make_each-made.new.self g.s c.args.changes.now) c.is_err.result c.if-is_err.true
    c.is_err.ensures.value c.make_each-made.ensures.err)

pub returns-then-is_err-clause-err : goal.returns-then-is_err-clause-err
returns-then-is_err-clause-err g c =
    at_err c.make_each-made.result (Stands c.restore.new.self g.s)
    (subst (Stands c.restore.new.self)
    (ap (restored (staged g.s c.args.changes.now) c.args.changes.now) (c.stage_before-before.ensures g.s c.requires.0.stands c.requires.0.valid)
    ∙ restored_back g.s c.args.changes.now)
    c.restore.ensures)

pub returns-then-is_err-clause-memory : goal.returns-then-is_err-clause-memory
returns-then-is_err-clause-memory g c =
    at_err c.make_each-made.result (list_any wants_memory c.args.changes.now ≡ true)
    (wanted c.make_each-made.new.self g.s c.args.changes.now
    (said c.make_each-made.result (MadeBefore c.make_each-made.new.self g.s c.args.changes.now) c.is_err.result c.if-is_err.true
    c.is_err.ensures.value c.make_each-made.ensures.err))
