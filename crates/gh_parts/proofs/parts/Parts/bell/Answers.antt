-- The bell's body shows its row.
use Rattle.std.proofs.Common.{◌∙◌, ap}
use Rattle.gh_parts.specs.Bodies.{bell_in}
use Rattle.gh_parts.specs.declared.body.Body.{Body}
use Rattle.gh_parts.proofs.ReadLemmas.{bell_told, bell_untold}
use Rattle.gh_parts.proofs.parts.Parts.bell.Goals as goal

pub returns-in-None : goal.returns-in-None
returns-in-None c = λ s stands. bell_untold c.args.self.now s stands c.args.bell.0 c.in-None.ensures.found

pub returns-in-Some : goal.returns-in-Some
returns-in-Some c = λ s stands.
    c.bell_row.ensures ∙ ap (λ (body : Body). bell_in c.args.bell.0 body) c.body.ensures
    ∙ bell_told c.args.self.now s stands c.args.bell.0 c.in-Some.index c.in-Some.ensures.found
