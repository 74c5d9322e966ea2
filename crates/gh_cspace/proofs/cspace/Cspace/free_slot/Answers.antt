-- The first bit that is 0 is that of the first free word.
use Rattle.std.proofs.Common.{ap, ◌∙◌}
use Rattle.gh_cspace.specs.Cspace.{free_slot}
use Rattle.gh_cspace.proofs.FilledLemmas.{MarksFilled-some_clear, free_slot-first_free}
use Rattle.gh_cspace.proofs.cspace.Cspace.free_slot.Goals as goal

pub first_free_place-place-requires : goal.first_free_place-place-requires
first_free_place-place-requires c = MarksFilled-some_clear _ _ c.self.invariant

pub returns-clause-least : goal.returns-clause-least
returns-clause-least c =
    let first = c.first_free_place-place.ensures in
    c.then_some.ensures
    ∙ free_slot-first_free _ _ _ c.self.invariant first.within first.free first.taken_before
    ∙ ap free_slot c.self.view_is
