-- The counters so far are what was scanned.
use Rattle.std.proofs.Common.{◌≡◌, drop}
use Rattle.gh_core.specs.EntryTests.{scans_are}
use Rattle.gh_core.specs.Running.{holder_of}
use Rattle.gh_core.proofs.commit.are_scans.Given as goal

abbrev pub invariant-loop-at : goal.invariant-loop-at
invariant-loop-at l = scans_are (holder_of l.turn).scans l.at (drop l.at l.seen) ≡ scans_are (holder_of l.turn).scans 0 l.seen
