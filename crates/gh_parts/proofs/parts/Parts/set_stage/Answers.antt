-- The object's header is changed with its row.
use Rattle.std.proofs.Common.{[], subst, sym, ap, ◌∙◌}
use Rattle.gh_model.specs.Changes.{set_stage as set_stage_of}
use Rattle.gh_objects.specs.Headers.{HeaderTable, header_staged}
use Rattle.gh_parts.specs.Stands.{Stands}
use Rattle.gh_parts.proofs.IndexLemmas.{found_at, found_header}
use Rattle.gh_parts.proofs.StandsObjects.{stage_stands, stage_unfound}
use Rattle.gh_parts.proofs.parts.Parts.set_stage.Goals as goal

pub returns-in-Some : goal.returns-in-Some
returns-in-Some g c =
    subst (λ (table : HeaderTable). Stands (record c.args.self.now { table = table }) (set_stage_of c.args.object c.args.stage g.s))
    (ap (header_staged c.args.stage c.args.self.now.table)
    (found_at c.args.self.now.table.headers c.args.object.0 c.in-Some.index (sym c.in-Some.ensures.found))
    ∙ sym c.set_stage.ensures)
    (stage_stands [] c.args.self.now g.s c.requires c.args.object c.args.stage)

pub returns-in_default : goal.returns-in_default
returns-in_default g c =
    subst (λ (table : HeaderTable). Stands (record c.args.self.now { table = table }) (set_stage_of c.args.object c.args.stage g.s))
    (stage_unfound c.args.self.now.table c.args.stage c.args.object.0 (sym c.in_default.ensures.found))
    (stage_stands [] c.args.self.now g.s c.requires c.args.object c.args.stage)

pub set_stage-requires : goal.set_stage-requires
set_stage-requires g c =
    found_header c.args.self.now.table.headers c.args.object.0 c.in-Some.index (sym c.in-Some.ensures.found)
