-- The address space's body shows its rows.
use Rattle.std.proofs.Common.{◌∙◌, ap}
use Rattle.gh_parts.specs.SpaceReads.{rows_in}
use Rattle.gh_parts.proofs.SpaceReadLemmas.{rows_told}
use Rattle.gh_parts.specs.declared.body.Body.{Body}
use Rattle.gh_parts.proofs.ReadLemmas.{seen_told, seen_untold}
use Rattle.gh_parts.proofs.parts.Parts.mappings.Goals as goal

pub returns-in-None : goal.returns-in-None
returns-in-None c = λ s stands.
    seen_untold c.args.self.now s stands (λ (body : Body). rows_in body) _ c.args.space.0 (rows_told c.args.self.now s stands c.args.space) c.in-None.ensures.found

pub returns-in-Some : goal.returns-in-Some
returns-in-Some c = λ s stands.
    c.rows_in.ensures ∙ ap (λ (body : Body). rows_in body) c.body.ensures
    ∙ seen_told c.args.self.now s stands (λ (body : Body). rows_in body) _ c.args.space.0 c.in-Some.index (rows_told c.args.self.now s stands c.args.space) c.in-Some.ensures.found
