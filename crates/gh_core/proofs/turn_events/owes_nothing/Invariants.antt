-- Where so far something was written nothing is owed.
use Rattle.std.proofs.Common.{◌≡◌, drop}
use Rattle.std.specs.List.{list_all}
use Rattle.gh_core.specs.Running.{is_paid}
use Rattle.gh_core.proofs.turn_events.owes_nothing.Given as goal

abbrev pub invariant-loop-written : goal.invariant-loop-written
invariant-loop-written l = list_all (is_paid l.owed) (drop l.written-index l.owed) ≡ list_all (is_paid l.owed) l.owed
