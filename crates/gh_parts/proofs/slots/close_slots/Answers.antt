-- What is taken away doesn't stay, and all that stays is left.
use Rattle.std.proofs.Common.{◌≡◌, ◌∙◌, Some, None, ap, position, sym}
use Rattle.gh_model.specs.Changes.{without}
use Rattle.gh_parts.specs.Slots.{is_home, new_slots, no_serial}
use Rattle.gh_parts.proofs.RemovedRows.{unplaced_stays, without_removed}
use Rattle.gh_parts.proofs.slots.close_slots.Goals as goal

pub loop-at-preserved : goal.loop-at-preserved
loop-at-preserved c =
    let found : position (is_home c.args.cspace.0) c.loop-at.all ≡ Some c.in-Some.at = cc in
    ap (without (is_home c.args.cspace.0)) c.remove.ensures.rest
    ∙ without_removed (is_home c.args.cspace.0) c.loop-at.all c.in-Some.at (new_slots no_serial) found
    ∙ c.loop-at.invariant

pub returns : goal.returns
returns c =
    let none : position (is_home c.args.cspace.0) c.loop-at.all ≡ None = cc in
    sym (unplaced_stays (is_home c.args.cspace.0) c.loop-at.all none) ∙ c.loop-at.invariant
