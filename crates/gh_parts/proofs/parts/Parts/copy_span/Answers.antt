-- The extent's body is changed.
use Rattle.std.proofs.Common.{◌∙◌, List, ap, sym}
use Rattle.gh_extent.specs.Extents.{row_span}
use Rattle.gh_model.specs.declared.memory.Span.{Span}
use Rattle.gh_parts.specs.MemoryChanges.{spanned}
use Rattle.gh_parts.specs.declared.shares.Place.{Place}
use Rattle.gh_parts.proofs.BodyLemmas.{changed_shares, unfound_shares}
use Rattle.gh_parts.proofs.parts.Parts.copy_span.Goals as goal

pub returns-in-Some : goal.returns-in-Some
returns-in-Some c =
    ap (λ (shares : List (List Place)). record (c.args.self.now) { shares = shares })
    (sym (changed_shares c.args.self.now.table.headers c.args.self.now.shares c.args.row.serial.0 c.in-Some.index
    (spanned (row_span c.args.row)) _ _ _ _ c.in-Some.ensures.found c.take-body.ensures.before c.take-body.ensures.taken
    (c.spanned.ensures ∙ ap (λ (span : Span). spanned span c.take-body.result) c.span_of.ensures) c.put.ensures))

pub returns-in_default : goal.returns-in_default
returns-in_default c =
    ap (λ (shares : List (List Place)). record (c.args.self.now) { shares = shares })
    (sym (unfound_shares c.args.self.now.table.headers c.args.self.now.shares c.args.row.serial.0 _
    c.requires.indexed c.requires.whole c.in_default.ensures.found))
