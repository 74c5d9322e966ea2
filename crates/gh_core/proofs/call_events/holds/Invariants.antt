-- None so far is at the index.
use Rattle.std.proofs.Common.{◌≡◌, drop, map}
use Rattle.std.specs.List.{list_any}
use Rattle.gh_events.specs.Config.{is_pin_at}
use Rattle.gh_core.specs.Running.{pin_of}
use Rattle.gh_core.proofs.call_events.holds.Given as goal

abbrev pub invariant-loop-pin : goal.invariant-loop-pin
invariant-loop-pin l =
    list_any (is_pin_at l.object.0) (map pin_of (drop l.pin-index l.pins)) ≡ list_any (is_pin_at l.object.0) (map pin_of l.pins)
