-- The row and the span are put, and then the reference is counted.
use Rattle.std.proofs.Common.{[], refl, subst}
use Rattle.gh_extent.specs.Extents.{root_alone}
use Rattle.gh_model.specs.Changes.{add_root as add_root_of}
use Rattle.gh_objects.specs.Counts.{with_reference}
use Rattle.gh_parts.specs.Owing.{recounted}
use Rattle.gh_parts.specs.Stands.{Stands}
use Rattle.gh_parts.specs.declared.journal.Memory.TheVariants.{Held}
use Rattle.gh_parts.specs.declared.parts.Parts.{Parts}
use Rattle.gh_parts.proofs.StandsOwed.{owed_next}
use Rattle.gh_parts.proofs.StandsSpan.{root_stands, span_counted, span_owes}
use Rattle.gh_parts.proofs.parts.Parts.add_root.Goals as goal

pub owe-requires : goal.owe-requires
owe-requires g c =
    span_owes c.args.self.now c.hold_all.new.self c.copy_span.new.self g.s c.args.row (Held (root_alone c.args.row.count c.args.row.serial)) c.args.row.serial.0
    c.requires.0.stands c.requires.0.room c.in_ok-hold_all.ensures.ok c.copy_span.ensures

pub returns-clause-ok : goal.returns-clause-ok
returns-clause-ok g c =
    subst (λ (parts : Parts). Stands parts (add_root_of c.args.row g.s))
    (span_counted c.args.self.now c.hold_all.new.self c.copy_span.new.self c.owe.new.self c.args.row (Held (root_alone c.args.row.count c.args.row.serial)) c.args.row.serial.0
    c.in_ok-hold_all.ensures.ok c.copy_span.ensures c.owe.ensures)
    (root_stands (recounted with_reference c.args.self.now c.args.row.serial.0) g.s c.requires.0.valid c.args.row c.requires.0.may c.requires.1
    (owed_next c.args.self.now (recounted with_reference c.args.self.now c.args.row.serial.0) g.s [] c.args.row.serial c.requires.0.stands refl))
