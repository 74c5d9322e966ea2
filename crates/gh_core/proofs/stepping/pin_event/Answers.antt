-- A pin of a call, or a reference that is owed.
use Rattle.std.proofs.Common.{ap, false, true}
use Rattle.gh_events.specs.declared.event.Event.TheVariants as events
use Rattle.gh_core.specs.Running.{stands_for}
use Rattle.gh_core.specs.Tests.{owes, pins}
use Rattle.gh_core.proofs.CallTests.{pin_told, tells_pin}
use Rattle.gh_core.proofs.HolderTests.{owe_told, tells_owe}
use Rattle.gh_core.proofs.StepLemmas.{did_at, did_by}
use Rattle.gh_core.proofs.stepping.pin_event.Goals as goal

pub returns-then-turn-clause-did : goal.returns-then-turn-clause-did
returns-then-turn-clause-did c = did_at c.owe.result (stands_for c.args.running.now) (events.Pin c.args.cpu c.args.object c.args.turn) (events.Pin c.args.cpu c.args.object true) _ (ap (events.Pin c.args.cpu c.args.object) c.if-turn.true)
    (did_by c.owe.result (stands_for c.args.running.now) (events.Pin c.args.cpu c.args.object true) _ (owes (stands_for c.args.running.now) c.args.cpu.0 c.args.object.0) c.owe.ensures.may c.owe.ensures.then
    (owe_told (stands_for c.args.running.now) c.args.cpu.0 c.args.object.0) (tells_owe (stands_for c.args.running.now) c.args.cpu.0 c.args.object.0))

pub returns-else-turn-clause-did : goal.returns-else-turn-clause-did
returns-else-turn-clause-did c = did_at c.pin.result (stands_for c.args.running.now) (events.Pin c.args.cpu c.args.object c.args.turn) (events.Pin c.args.cpu c.args.object false) _ (ap (events.Pin c.args.cpu c.args.object) c.if-turn.false)
    (did_by c.pin.result (stands_for c.args.running.now) (events.Pin c.args.cpu c.args.object false) _ (pins (stands_for c.args.running.now) c.args.cpu.0 c.args.object.0) c.pin.ensures.may c.pin.ensures.then
    (pin_told (stands_for c.args.running.now) c.args.cpu.0 c.args.object.0) (tells_pin (stands_for c.args.running.now) c.args.cpu.0 c.args.object.0))
