-- The row and the span are put, and then the reference is counted.
use Rattle.std.proofs.Common.{[], refl, subst}
use Rattle.gh_model.specs.Changes.{add_extent as add_extent_of}
use Rattle.gh_objects.specs.Counts.{with_reference}
use Rattle.gh_parts.specs.MemoryChanges.{with_extent}
use Rattle.gh_parts.specs.Owing.{recounted}
use Rattle.gh_parts.specs.Stands.{Stands}
use Rattle.gh_parts.specs.declared.parts.Parts.{Parts}
use Rattle.gh_parts.proofs.StandsOwed.{owed_next}
use Rattle.gh_parts.proofs.StandsSpan.{extent_stands, span_counted, span_owes}
use Rattle.gh_parts.proofs.parts.Parts.add_extent.Goals as goal

pub owe-requires : goal.owe-requires
owe-requires g c =
    span_owes c.args.self.now c.push_extent.new.self c.copy_span.new.self g.s c.args.row (with_extent c.args.row c.args.self.now.journal.memory) c.args.row.parent.0
    c.requires.0.stands c.requires.0.room c.in_ok-push_extent.ensures.ok c.copy_span.ensures

pub returns-clause-ok : goal.returns-clause-ok
returns-clause-ok g c =
    subst (λ (parts : Parts). Stands parts (add_extent_of c.args.row g.s))
    (span_counted c.args.self.now c.push_extent.new.self c.copy_span.new.self c.owe.new.self c.args.row (with_extent c.args.row c.args.self.now.journal.memory) c.args.row.parent.0
    c.in_ok-push_extent.ensures.ok c.copy_span.ensures c.owe.ensures)
    (extent_stands (recounted with_reference c.args.self.now c.args.row.parent.0) g.s c.requires.0.valid c.args.row c.requires.0.may
    (owed_next c.args.self.now (recounted with_reference c.args.self.now c.args.row.parent.0) g.s [] c.args.row.parent c.requires.0.stands refl))
