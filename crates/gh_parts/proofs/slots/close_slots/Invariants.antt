-- Those that stay are the same; there are fewer each time.
use Rattle.std.proofs.Common.{◌≡◌, length}
use Rattle.gh_model.specs.Changes.{without}
use Rattle.gh_parts.specs.Slots.{is_home}
use Rattle.gh_parts.proofs.slots.close_slots.Given as goal

abbrev pub invariant-loop-at : goal.invariant-loop-at
invariant-loop-at l = without (is_home l.cspace.0) l.all ≡ without (is_home l.cspace.0) l.initial.all

abbrev pub decreases-loop-at : goal.decreases-loop-at
decreases-loop-at l = length l.all
