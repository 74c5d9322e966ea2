-- None so far is killed: some is among those that are left where some is at all.
use Rattle.std.proofs.Common.{◌≡◌, drop}
use Rattle.std.specs.List.{list_any}
use Rattle.gh_events.specs.Config.{is_killed}
use Rattle.gh_core.specs.Running.{stands_for}
use Rattle.gh_core.proofs.holder_events.some_killed.Given as goal

abbrev pub invariant-loop-row : goal.invariant-loop-row
invariant-loop-row l =
    list_any (is_killed (stands_for l.running).dead (stands_for l.running).index) (drop l.row-index l.rows)
    ≡ list_any (is_killed (stands_for l.running).dead (stands_for l.running).index) l.rows
