-- The entry is made where nothing refers to the object.
use Rattle.std.proofs.Common.{◌≡◌, ◌∙◌, true, ap, sym}
use Rattle.std.specs.Prelude.{◌&&◌}
use Rattle.std.proofs.lemmas.Bool.{and_parts, eqb-true}
use Rattle.gh_invariant.proofs.EntriesKept.{begins}
use Rattle.gh_model.specs.Act.{counted}
use Rattle.gh_model.specs.Changes.{reclaim_object}
use Rattle.gh_model.specs.History.{is_retired, numbered}
use Rattle.gh_model.specs.References.{is_doomed}
use Rattle.gh_model.specs.Rows.{object_row}
use Rattle.gh_parts.proofs.EntryTests.{both_told, made_told, none_told}
use Rattle.gh_parts.proofs.parts.Parts.reclaim_retired.Goals as goal
use Rattle.gh_parts.proofs.parts.Parts.reclaim_retired.Goals.{else-doomed, then-doomed}

pub reclaim-requires : goal.reclaim-requires
reclaim-requires g c =
    let told : c.if-doomed.may ≡ (is_doomed g.s c.args.serial.0 && is_retired (object_row g.s c.args.serial.0)) =
    elim c.if-doomed.branch [
      | then-doomed w ↦
          both_told c.if-doomed.may c.doomed.result w.is_retired-may.result (is_doomed g.s c.args.serial.0) (is_retired (object_row g.s c.args.serial.0))
          (c.doomed.ensures g.s c.requires.stands (begins g.s c.requires.valid)) w.if-doomed.true w.may-is
          (w.is_retired-may.ensures ∙ ap is_retired (w.object.ensures g.s c.requires.stands (begins g.s c.requires.valid)))
      | else-doomed w ↦
          none_told c.if-doomed.may c.doomed.result (is_doomed g.s c.args.serial.0) (is_retired (object_row g.s c.args.serial.0))
          (c.doomed.ensures g.s c.requires.stands (begins g.s c.requires.valid)) w.if-doomed.false (w.may-is ∙ w.if-doomed.false)
    ] in
    let both : (is_doomed g.s c.args.serial.0 ≡ true) × (is_retired (object_row g.s c.args.serial.0) ≡ true) =
    and_parts (is_doomed g.s c.args.serial.0) (is_retired (object_row g.s c.args.serial.0)) (sym told ∙ c.if-may.true) in
    record {
      stands = c.requires.stands;
      valid = begins g.s c.requires.valid;
      may = record { retired = both.1; doomed = eqb-true _ 0 both.0 };
      room = c.requires.room;
    }

pub returns-then-may-clause-may : goal.returns-then-may-clause-may
returns-then-may-clause-may g c =
    elim c.if-doomed.branch [
      | then-doomed w ↦
          both_told c.if-doomed.may c.doomed.result w.is_retired-may.result (is_doomed g.s c.args.serial.0) (is_retired (object_row g.s c.args.serial.0))
          (c.doomed.ensures g.s c.requires.stands (begins g.s c.requires.valid)) w.if-doomed.true w.may-is
          (w.is_retired-may.ensures ∙ ap is_retired (w.object.ensures g.s c.requires.stands (begins g.s c.requires.valid)))
      | else-doomed w ↦
          none_told c.if-doomed.may c.doomed.result (is_doomed g.s c.args.serial.0) (is_retired (object_row g.s c.args.serial.0))
          (c.doomed.ensures g.s c.requires.stands (begins g.s c.requires.valid)) w.if-doomed.false (w.may-is ∙ w.if-doomed.false)
    ]

pub returns-then-may-clause-made : goal.returns-then-may-clause-made
returns-then-may-clause-made g c =
    let told : c.if-doomed.may ≡ (is_doomed g.s c.args.serial.0 && is_retired (object_row g.s c.args.serial.0)) =
    elim c.if-doomed.branch [
      | then-doomed w ↦
          both_told c.if-doomed.may c.doomed.result w.is_retired-may.result (is_doomed g.s c.args.serial.0) (is_retired (object_row g.s c.args.serial.0))
          (c.doomed.ensures g.s c.requires.stands (begins g.s c.requires.valid)) w.if-doomed.true w.may-is
          (w.is_retired-may.ensures ∙ ap is_retired (w.object.ensures g.s c.requires.stands (begins g.s c.requires.valid)))
      | else-doomed w ↦
          none_told c.if-doomed.may c.doomed.result (is_doomed g.s c.args.serial.0) (is_retired (object_row g.s c.args.serial.0))
          (c.doomed.ensures g.s c.requires.stands (begins g.s c.requires.valid)) w.if-doomed.false (w.may-is ∙ w.if-doomed.false)
    ] in
    made_told c.count.new.self g.s (counted (reclaim_object c.args.serial g.s)) (numbered g.s) c.if-doomed.may
    (is_doomed g.s c.args.serial.0 && is_retired (object_row g.s c.args.serial.0)) told c.if-may.true
    (c.count.ensures (reclaim_object c.args.serial g.s) c.reclaim.ensures)

pub returns-else-may-clause-may : goal.returns-else-may-clause-may
returns-else-may-clause-may g c =
    elim c.if-doomed.branch [
      | then-doomed w ↦
          both_told c.if-doomed.may c.doomed.result w.is_retired-may.result (is_doomed g.s c.args.serial.0) (is_retired (object_row g.s c.args.serial.0))
          (c.doomed.ensures g.s c.requires.stands (begins g.s c.requires.valid)) w.if-doomed.true w.may-is
          (w.is_retired-may.ensures ∙ ap is_retired (w.object.ensures g.s c.requires.stands (begins g.s c.requires.valid)))
      | else-doomed w ↦
          none_told c.if-doomed.may c.doomed.result (is_doomed g.s c.args.serial.0) (is_retired (object_row g.s c.args.serial.0))
          (c.doomed.ensures g.s c.requires.stands (begins g.s c.requires.valid)) w.if-doomed.false (w.may-is ∙ w.if-doomed.false)
    ]
