-- Those that stay are the same; there are fewer each time.
use Rattle.std.proofs.Common.{◌≡◌, length}
use Rattle.gh_model.specs.Changes.{without}
use Rattle.gh_parts.specs.Stands.{is_account}
use Rattle.gh_parts.proofs.units.close_account.Given as goal

abbrev pub invariant-loop-at : goal.invariant-loop-at
invariant-loop-at l =
    without (is_account l.partition.0) l.accounts ≡ without (is_account l.partition.0) l.initial.accounts

abbrev pub decreases-loop-at : goal.decreases-loop-at
decreases-loop-at l = length l.accounts
