-- The address space shows who holds the pages.
use Rattle.std.proofs.Common.{◌∙◌, ap}
use Rattle.gh_parts.specs.SpaceReads.{access_in}
use Rattle.gh_parts.proofs.SpaceReadLemmas.{access_told}
use Rattle.gh_parts.specs.declared.body.Body.{Body}
use Rattle.gh_parts.proofs.ReadLemmas.{seen_told, seen_untold}
use Rattle.gh_parts.proofs.parts.Parts.access.Goals as goal

pub returns-in-None : goal.returns-in-None
returns-in-None c = λ s stands.
    seen_untold c.args.self.now s stands (λ (body : Body). access_in c.args.page body) _ c.args.space.0 (access_told c.args.self.now s stands c.args.space c.args.page) c.in-None.ensures.found

pub returns-in-Some : goal.returns-in-Some
returns-in-Some c = λ s stands.
    c.access_in.ensures ∙ ap (λ (body : Body). access_in c.args.page body) c.body.ensures
    ∙ seen_told c.args.self.now s stands (λ (body : Body). access_in c.args.page body) _ c.args.space.0 c.in-Some.index (access_told c.args.self.now s stands c.args.space c.args.page) c.in-Some.ensures.found
