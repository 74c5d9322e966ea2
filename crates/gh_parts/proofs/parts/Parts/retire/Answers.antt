-- The object at the index that is found is retired.
use Rattle.std.proofs.Common.{◌∙◌, ℕ, ap, subst, sym}
use Rattle.gh_model.specs.Changes.{retire_object}
use Rattle.gh_parts.specs.NumberChanges.{with_retired}
use Rattle.gh_parts.specs.Stands.{Stands}
use Rattle.gh_parts.specs.declared.parts.Parts.{Parts}
use Rattle.gh_parts.proofs.IndexLemmas.{found_at, unfound_past}
use Rattle.gh_parts.proofs.StandsRetired.{retire_stands, retire_unfound}
use Rattle.gh_parts.proofs.parts.Parts.retire.Goals as goal

pub returns-in-Some : goal.returns-in-Some
returns-in-Some g c =
    subst (λ (parts : Parts). Stands parts (retire_object c.args.object c.args.seen g.s))
    (ap (λ (index : ℕ). with_retired c.args.seen index c.args.self.now)
    (found_at c.args.self.now.table.headers c.args.object.0 c.in-Some.index (sym c.in-Some.ensures.found))
    ∙ sym c.retire_at.ensures)
    (retire_stands c.args.self.now g.s c.requires.stands c.args.object c.args.seen)

pub returns-in_default : goal.returns-in_default
returns-in_default g c =
    subst (λ (parts : Parts). Stands parts (retire_object c.args.object c.args.seen g.s))
    (retire_unfound c.args.self.now g.s c.requires.stands c.args.object c.args.seen
    (unfound_past c.args.self.now.table.headers c.args.object.0 (sym c.in_default.ensures.found)))
    (retire_stands c.args.self.now g.s c.requires.stands c.args.object c.args.seen)
