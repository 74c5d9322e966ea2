-- The CPU's row is marked, and then its references are counted no more.
use Rattle.std.proofs.Common.{◌∙◌, ◌∷◌, [], Some, None, ap, find, refl}
use Rattle.std.proofs.lemmas.Bool.{not-false, not-true}
use Rattle.gh_model.specs.Changes.{exit_cpu}
use Rattle.gh_model.specs.Rows.{is_cpu}
use Rattle.gh_parts.specs.Stands.{StandsOwing}
use Rattle.gh_parts.proofs.StandsExit.{exit_owes, runs, runs_not}
use Rattle.gh_parts.proofs.StandsOwed.{owed_has, settled_next}
use Rattle.gh_parts.proofs.parts.Parts.exit.Goals as goal

pub settle-requires : goal.settle-requires
settle-requires g c =
    owed_has c.mark_exit.new.self (exit_cpu c.args.cpu.0 g.s) (c.in-Some.row.space ∷ []) c.in-Some.row.cspace
    (runs c.mark_exit.new.self (exit_cpu c.args.cpu.0 g.s) c.in-Some.row (not-true _ c.if-not-row.true)
    (exit_owes c.args.self.now g.s c.requires.stands c.requires.valid c.args.cpu c.mark_exit.new.self (Some c.in-Some.row) c.mark_exit.ensures
    (c.in-Some.ensures ∙ ap (find (is_cpu c.args.cpu.0)) c.as_slice.ensures)))

pub settle-requires-then-not-row : goal.settle-requires-then-not-row
settle-requires-then-not-row g c =
    let both : StandsOwing (c.in-Some.row.cspace ∷ c.in-Some.row.space ∷ []) c.mark_exit.new.self (exit_cpu c.args.cpu.0 g.s) =
    runs c.mark_exit.new.self (exit_cpu c.args.cpu.0 g.s) c.in-Some.row (not-true _ c.if-not-row.true)
    (exit_owes c.args.self.now g.s c.requires.stands c.requires.valid c.args.cpu c.mark_exit.new.self (Some c.in-Some.row) c.mark_exit.ensures
    (c.in-Some.ensures ∙ ap (find (is_cpu c.args.cpu.0)) c.as_slice.ensures)) in
    owed_has c.settle.new.self (exit_cpu c.args.cpu.0 g.s) [] c.in-Some.row.space
    (settled_next c.mark_exit.new.self c.settle.new.self (exit_cpu c.args.cpu.0 g.s) (c.in-Some.row.space ∷ []) c.in-Some.row.cspace both c.settle.ensures)

pub returns-then-not-row : goal.returns-then-not-row
returns-then-not-row g c =
    let both : StandsOwing (c.in-Some.row.cspace ∷ c.in-Some.row.space ∷ []) c.mark_exit.new.self (exit_cpu c.args.cpu.0 g.s) =
    runs c.mark_exit.new.self (exit_cpu c.args.cpu.0 g.s) c.in-Some.row (not-true _ c.if-not-row.true)
    (exit_owes c.args.self.now g.s c.requires.stands c.requires.valid c.args.cpu c.mark_exit.new.self (Some c.in-Some.row) c.mark_exit.ensures
    (c.in-Some.ensures ∙ ap (find (is_cpu c.args.cpu.0)) c.as_slice.ensures)) in
    settled_next c.settle.new.self c.settle-then-not-row.new.self (exit_cpu c.args.cpu.0 g.s) [] c.in-Some.row.space
    (settled_next c.mark_exit.new.self c.settle.new.self (exit_cpu c.args.cpu.0 g.s) (c.in-Some.row.space ∷ []) c.in-Some.row.cspace both c.settle.ensures)
    c.settle-then-not-row.ensures

pub returns-else-not-row : goal.returns-else-not-row
returns-else-not-row g c =
    runs_not c.mark_exit.new.self (exit_cpu c.args.cpu.0 g.s) c.in-Some.row c.in-Some.row.exited refl (not-false _ c.if-not-row.false)
    (exit_owes c.args.self.now g.s c.requires.stands c.requires.valid c.args.cpu c.mark_exit.new.self (Some c.in-Some.row) c.mark_exit.ensures
    (c.in-Some.ensures ∙ ap (find (is_cpu c.args.cpu.0)) c.as_slice.ensures))

pub returns-in_default : goal.returns-in_default
returns-in_default g c =
    exit_owes c.args.self.now g.s c.requires.stands c.requires.valid c.args.cpu c.mark_exit.new.self None c.mark_exit.ensures
    (c.in_default.ensures ∙ ap (find (is_cpu c.args.cpu.0)) c.as_slice.ensures)
