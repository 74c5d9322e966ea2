-- None so far is the index.
use Rattle.std.proofs.Common.{◌≡◌, drop}
use Rattle.std.specs.List.{list_any}
use Rattle.gh_events.specs.Entries.{is_that_index}
use Rattle.gh_core.proofs.set_cap.is_revived.Given as goal

abbrev pub invariant-loop-one : goal.invariant-loop-one
invariant-loop-one l = list_any (is_that_index l.index) (drop l.one-index l.revived) ≡ list_any (is_that_index l.index) l.revived
