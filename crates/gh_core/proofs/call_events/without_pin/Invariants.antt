-- The pins so far, and of those that are left all but the first at the index if none was found.
use Rattle.std.proofs.Common.{◌≡◌, ◌++◌, drop, map, if◌then◌else◌}
use Rattle.gh_events.specs.CallEvents.{without_pin}
use Rattle.gh_core.specs.Running.{pin_of}
use Rattle.gh_core.proofs.call_events.without_pin.Given as goal

abbrev pub invariant-loop-pin : goal.invariant-loop-pin
invariant-loop-pin l =
    map pin_of l.left ++ (if l.found then map pin_of (drop l.pin-index l.pins) else without_pin l.object.0 (map pin_of (drop l.pin-index l.pins)))
    ≡ without_pin l.object.0 (map pin_of l.pins)
