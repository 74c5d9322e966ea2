-- What is at the object's index is its row.
use Rattle.std.proofs.Common.{◌∙◌}
use Rattle.gh_parts.proofs.ReadLemmas.{object_found, object_unfound}
use Rattle.gh_parts.proofs.parts.Parts.object.Goals as goal

pub returns-in-None : goal.returns-in-None
returns-in-None c = λ s stands valid.
    object_unfound c.args.self.now s stands valid c.args.object.0 c.in-None.ensures.found

pub returns-in-Some : goal.returns-in-Some
returns-in-Some c = λ s stands valid.
    c.object_at.ensures
    ∙ object_found c.args.self.now s stands valid c.args.object.0 c.in-Some.index c.in-Some.ensures.found
