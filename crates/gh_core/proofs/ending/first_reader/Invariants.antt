-- The CPUs so far don't read: the first that does is among those from here on.
use Rattle.std.proofs.Common.{◌≡◌, drop}
use Rattle.gh_core.specs.Running.{holder_of}
use Rattle.gh_events.specs.TurnEvents.{first_reader}
use Rattle.gh_core.proofs.ending.first_reader.Given as goal

abbrev pub invariant-loop-at : goal.invariant-loop-at
invariant-loop-at l =
    first_reader (holder_of l.turn).scans l.at (drop l.at l.counters) ≡ first_reader (holder_of l.turn).scans 0 l.counters
