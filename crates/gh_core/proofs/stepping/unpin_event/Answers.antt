-- A pin of an ended call, or a reference that was owed.
use Rattle.std.proofs.Common.{ap, false, true}
use Rattle.gh_events.specs.declared.event.Event.TheVariants as events
use Rattle.gh_core.specs.Running.{stands_for}
use Rattle.gh_core.specs.Tests.{settles, unpins}
use Rattle.gh_core.proofs.CallTests.{tells_unpin, unpin_told}
use Rattle.gh_core.proofs.HolderTests.{settle_told, tells_settle}
use Rattle.gh_core.proofs.StepLemmas.{did_at, did_by}
use Rattle.gh_core.proofs.stepping.unpin_event.Goals as goal

pub returns-then-turn-clause-did : goal.returns-then-turn-clause-did
returns-then-turn-clause-did c = did_at c.settle.result (stands_for c.args.running.now) (events.Unpin c.args.cpu c.args.object c.args.turn) (events.Unpin c.args.cpu c.args.object true) _ (ap (events.Unpin c.args.cpu c.args.object) c.if-turn.true)
    (did_by c.settle.result (stands_for c.args.running.now) (events.Unpin c.args.cpu c.args.object true) _ (settles (stands_for c.args.running.now) c.args.cpu.0 c.args.object.0) c.settle.ensures.may c.settle.ensures.then
    (settle_told (stands_for c.args.running.now) c.args.cpu.0 c.args.object.0) (tells_settle (stands_for c.args.running.now) c.args.cpu.0 c.args.object.0))

pub returns-else-turn-clause-did : goal.returns-else-turn-clause-did
returns-else-turn-clause-did c = did_at c.unpin.result (stands_for c.args.running.now) (events.Unpin c.args.cpu c.args.object c.args.turn) (events.Unpin c.args.cpu c.args.object false) _ (ap (events.Unpin c.args.cpu c.args.object) c.if-turn.false)
    (did_by c.unpin.result (stands_for c.args.running.now) (events.Unpin c.args.cpu c.args.object false) _ (unpins (stands_for c.args.running.now) c.args.cpu.0 c.args.object.0) c.unpin.ensures.may c.unpin.ensures.then
    (unpin_told (stands_for c.args.running.now) c.args.cpu.0 c.args.object.0) (tells_unpin (stands_for c.args.running.now) c.args.cpu.0 c.args.object.0))
