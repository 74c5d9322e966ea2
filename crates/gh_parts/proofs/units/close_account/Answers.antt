-- What is taken away doesn't stay, and all that stays is left.
use Rattle.std.proofs.Common.{◌≡◌, ◌∙◌, Some, None, ap, position, sym}
use Rattle.gh_model.specs.Changes.{without}
use Rattle.gh_parts.specs.ObjectChanges.{new_account}
use Rattle.gh_parts.specs.Slots.{no_serial}
use Rattle.gh_parts.specs.Stands.{is_account}
use Rattle.gh_parts.proofs.RemovedRows.{unplaced_stays, without_removed}
use Rattle.gh_parts.proofs.units.close_account.Goals as goal

pub loop-at-preserved : goal.loop-at-preserved
loop-at-preserved c =
    let found : position (is_account c.args.partition.0) c.loop-at.accounts ≡ Some c.in-Some.at = cc in
    ap (without (is_account c.args.partition.0)) c.remove.ensures.rest
    ∙ without_removed (is_account c.args.partition.0) c.loop-at.accounts c.in-Some.at (new_account no_serial no_serial) found
    ∙ c.loop-at.invariant

pub returns : goal.returns
returns c =
    let none : position (is_account c.args.partition.0) c.loop-at.accounts ≡ None = cc in
    sym (unplaced_stays (is_account c.args.partition.0) c.loop-at.accounts none) ∙ c.loop-at.invariant
