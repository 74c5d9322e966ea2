-- Lists of different lengths aren't the same.
use Rattle.std.proofs.Common.{sym}
use Rattle.gh_core.proofs.TurnTests.{looks_differ}
use Rattle.gh_core.proofs.turn_events.same_pins.Goals as goal

pub returns-then-pins-seen : goal.returns-then-pins-seen
returns-then-pins-seen c = sym (looks_differ c.args.pins.now c.args.seen.now c.if-pins-seen.true)
