-- The object's count is that of its references.
use Rattle.std.proofs.Common.{◌∙◌, Option, ap}
use Rattle.gh_objects.specs.Counts.{is_doomed as is_doomed_count}
use Rattle.gh_objects.specs.declared.count.Count.{Count}
use Rattle.gh_parts.proofs.DoomedLemmas.{doomed_found, doomed_unfound}
use Rattle.gh_parts.proofs.parts.Parts.doomed.Goals as goal

pub returns-in-None : goal.returns-in-None
returns-in-None c = λ s stands valid.
    c.is_childless.ensures ∙ doomed_unfound c.args.self.now s stands valid c.args.object.0 c.in-None.ensures.found

pub returns-in-Some : goal.returns-in-Some
returns-in-Some c = λ s stands valid.
    c.is_doomed.ensures
    ∙ ap (λ (count : Option Count). is_doomed_count count) c.get.ensures.count
    ∙ doomed_found c.args.self.now s stands valid c.args.object.0 c.in-Some.index c.in-Some.ensures.found
