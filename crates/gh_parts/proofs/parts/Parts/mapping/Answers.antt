-- The address space's body shows its rows.
use Rattle.std.proofs.Common.{◌∙◌, ap}
use Rattle.gh_parts.specs.SpaceReads.{row_in}
use Rattle.gh_parts.proofs.SpaceReadLemmas.{mapping_told}
use Rattle.gh_parts.specs.declared.body.Body.{Body}
use Rattle.gh_parts.proofs.ReadLemmas.{seen_told, seen_untold}
use Rattle.gh_parts.proofs.parts.Parts.mapping.Goals as goal

pub returns-in-None : goal.returns-in-None
returns-in-None c = λ s stands.
    seen_untold c.args.self.now s stands (λ (body : Body). row_in c.args.space c.args.extent c.args.base c.args.offset c.args.count body) _ c.args.space.0 (mapping_told c.args.self.now s stands c.args.space c.args.extent c.args.base c.args.offset c.args.count) c.in-None.ensures.found

pub returns-in-Some : goal.returns-in-Some
returns-in-Some c = λ s stands.
    c.row_in.ensures ∙ ap (λ (body : Body). row_in c.args.space c.args.extent c.args.base c.args.offset c.args.count body) c.body.ensures
    ∙ seen_told c.args.self.now s stands (λ (body : Body). row_in c.args.space c.args.extent c.args.base c.args.offset c.args.count body) _ c.args.space.0 c.in-Some.index (mapping_told c.args.self.now s stands c.args.space c.args.extent c.args.base c.args.offset c.args.count) c.in-Some.ensures.found
