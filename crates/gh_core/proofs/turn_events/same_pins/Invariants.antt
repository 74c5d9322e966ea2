-- Those so far are the same.
use Rattle.std.proofs.Common.{◌≡◌, drop, map}
use Rattle.gh_events.specs.Config.{pin_of as pin_of_look}
use Rattle.gh_core.specs.Running.{pin_of, seen_of}
use Rattle.gh_core.specs.Tests.{same_pins}
use Rattle.gh_core.proofs.turn_events.same_pins.Given as goal

abbrev pub invariant-loop-at : goal.invariant-loop-at
invariant-loop-at l =
    same_pins (map pin_of (drop l.at l.pins)) (map pin_of_look (map seen_of (drop l.at l.seen)))
    ≡ same_pins (map pin_of l.pins) (map pin_of_look (map seen_of l.seen))
