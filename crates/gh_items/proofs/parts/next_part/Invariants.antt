-- The least of those behind the place that is reached.
use Rattle.std.proofs.Common.{◌≡◌, ◌≤◌, drop, filter, length}
use Rattle.gh_events.specs.Entries.{is_plain_of}
use Rattle.gh_schedules.specs.Items.{least}
use Rattle.gh_items.proofs.parts.next_part.Given as goal

abbrev pub invariant-loop-at : goal.invariant-loop-at
invariant-loop-at l = record {
  within : l.at ≤ length l.caps;
  behind : l.least ≡ least (filter (is_plain_of l.object.0) (drop l.at l.caps));
}

-- fewer are left with each step
abbrev pub decreases-loop-at : goal.decreases-loop-at
decreases-loop-at l = l.at
