-- Each event's function tells whether the event is possible.
use Rattle.std.proofs.Common.{refl, subst, sym}
use Rattle.gh_events.specs.declared.event.Event.{Event}
use Rattle.gh_events.specs.declared.event.Event.TheVariants as events
use Rattle.gh_core.specs.Running.{stands_for}
use Rattle.gh_core.specs.Stepped.{Did}
use Rattle.gh_core.specs.Tests.{enters, kills, leaves, looks, moves, revives, scans, takes, undoes}
use Rattle.gh_core.proofs.CallTests.{enter_told, leave_told, look_told, move_told, tells_enter, tells_leave, tells_look, tells_move, tells_undo, undo_told}
use Rattle.gh_core.proofs.HolderTests.{kill_told, revive_told, scan_told, tells_kill, tells_revive, tells_scan}
use Rattle.gh_core.proofs.StepLemmas.{did_all, did_at, did_by, did_made}
use Rattle.gh_core.proofs.TurnTests.{take_told, tells_take}
use Rattle.gh_core.proofs.stepping.do_event.Goals as goal

pub returns-in-Enter-clause-did : goal.returns-in-Enter-clause-did
returns-in-Enter-clause-did c = did_at c.enter.result (stands_for c.args.running.now) c.args.event (events.Enter c.in-Enter.cpu) _ c.in-Enter.is
    (did_by c.enter.result (stands_for c.args.running.now) (events.Enter c.in-Enter.cpu) _ (enters (stands_for c.args.running.now) c.in-Enter.cpu.0) c.enter.ensures.may c.enter.ensures.then
    (enter_told (stands_for c.args.running.now) c.in-Enter.cpu.0) (tells_enter (stands_for c.args.running.now) c.in-Enter.cpu.0))

pub returns-in-Leave-clause-did : goal.returns-in-Leave-clause-did
returns-in-Leave-clause-did c = did_at c.leave.result (stands_for c.args.running.now) c.args.event (events.Leave c.in-Leave.cpu) _ c.in-Leave.is
    (did_by c.leave.result (stands_for c.args.running.now) (events.Leave c.in-Leave.cpu) _ (leaves (stands_for c.args.running.now) c.in-Leave.cpu.0) c.leave.ensures.may c.leave.ensures.then
    (leave_told (stands_for c.args.running.now) c.in-Leave.cpu.0) (tells_leave (stands_for c.args.running.now) c.in-Leave.cpu.0))

pub returns-in-Take-clause-did : goal.returns-in-Take-clause-did
returns-in-Take-clause-did c = did_at c.take.result (stands_for c.args.running.now) c.args.event (events.Take c.in-Take.cpu) _ c.in-Take.is
    (did_by c.take.result (stands_for c.args.running.now) (events.Take c.in-Take.cpu) _ (takes (stands_for c.args.running.now) c.in-Take.cpu.0) c.take.ensures.may c.take.ensures.then
    (take_told (stands_for c.args.running.now) c.in-Take.cpu.0) (tells_take (stands_for c.args.running.now) c.in-Take.cpu.0))

pub returns-in-Look-clause-did : goal.returns-in-Look-clause-did
returns-in-Look-clause-did c = did_at c.look.result (stands_for c.args.running.now) c.args.event (events.Look c.in-Look.cpu c.in-Look.slot) _ c.in-Look.is
    (did_by c.look.result (stands_for c.args.running.now) (events.Look c.in-Look.cpu c.in-Look.slot) _ (looks (stands_for c.args.running.now) c.in-Look.cpu.0 c.in-Look.slot) c.look.ensures.may c.look.ensures.then
    (look_told (stands_for c.args.running.now) c.in-Look.cpu.0 c.in-Look.slot) (tells_look (stands_for c.args.running.now) c.in-Look.cpu.0 c.in-Look.slot))

pub returns-in-Undo-clause-did : goal.returns-in-Undo-clause-did
returns-in-Undo-clause-did c = did_at c.undo.result (stands_for c.args.running.now) c.args.event (events.Undo c.in-Undo.cpu c.in-Undo.object) _ c.in-Undo.is
    (did_by c.undo.result (stands_for c.args.running.now) (events.Undo c.in-Undo.cpu c.in-Undo.object) _ (undoes (stands_for c.args.running.now) c.in-Undo.cpu.0 c.in-Undo.object.0) c.undo.ensures.may c.undo.ensures.then
    (undo_told (stands_for c.args.running.now) c.in-Undo.cpu.0 c.in-Undo.object.0) (tells_undo (stands_for c.args.running.now) c.in-Undo.cpu.0 c.in-Undo.object.0))

pub returns-in-Kill-clause-did : goal.returns-in-Kill-clause-did
returns-in-Kill-clause-did c = did_at c.kill.result (stands_for c.args.running.now) c.args.event (events.Kill c.in-Kill.cpu c.in-Kill.object) _ c.in-Kill.is
    (did_by c.kill.result (stands_for c.args.running.now) (events.Kill c.in-Kill.cpu c.in-Kill.object) _ (kills (stands_for c.args.running.now) c.in-Kill.cpu.0 c.in-Kill.object.0) c.kill.ensures.may c.kill.ensures.then
    (kill_told (stands_for c.args.running.now) c.in-Kill.cpu.0 c.in-Kill.object.0) (tells_kill (stands_for c.args.running.now) c.in-Kill.cpu.0 c.in-Kill.object.0))

pub returns-in-Scan-clause-did : goal.returns-in-Scan-clause-did
returns-in-Scan-clause-did c = did_at c.scan.result (stands_for c.args.running.now) c.args.event (events.Scan c.in-Scan.cpu c.in-Scan.of) _ c.in-Scan.is
    (did_by c.scan.result (stands_for c.args.running.now) (events.Scan c.in-Scan.cpu c.in-Scan.of) _ (scans (stands_for c.args.running.now) c.in-Scan.cpu.0 c.in-Scan.of.0) c.scan.ensures.may c.scan.ensures.then
    (scan_told (stands_for c.args.running.now) c.in-Scan.cpu.0 c.in-Scan.of.0) (tells_scan (stands_for c.args.running.now) c.in-Scan.cpu.0 c.in-Scan.of.0))

pub returns-in-Revive-clause-did : goal.returns-in-Revive-clause-did
returns-in-Revive-clause-did c = did_at c.revive.result (stands_for c.args.running.now) c.args.event (events.Revive c.in-Revive.cpu c.in-Revive.object c.in-Revive.count) _ c.in-Revive.is
    (did_by c.revive.result (stands_for c.args.running.now) (events.Revive c.in-Revive.cpu c.in-Revive.object c.in-Revive.count) _ (revives (stands_for c.args.running.now) c.in-Revive.cpu.0 c.in-Revive.object.0 c.in-Revive.count) c.revive.ensures.may c.revive.ensures.then
    (revive_told (stands_for c.args.running.now) c.in-Revive.cpu.0 c.in-Revive.object.0 c.in-Revive.count) (tells_revive (stands_for c.args.running.now) c.in-Revive.cpu.0 c.in-Revive.object.0 c.in-Revive.count))

pub returns-in-Commit-clause-did : goal.returns-in-Commit-clause-did
returns-in-Commit-clause-did c = did_at c.commit.result (stands_for c.args.running.now) c.args.event (events.Commit c.in-Commit.cpu c.in-Commit.entry) _ c.in-Commit.is
    (did_all c.commit.result (stands_for c.args.running.now) (events.Commit c.in-Commit.cpu c.in-Commit.entry) _ c.commit.ensures.no c.commit.ensures.may c.commit.ensures.then)

pub returns-in-SetCap-clause-did : goal.returns-in-SetCap-clause-did
returns-in-SetCap-clause-did c = did_at c.set_cap.result (stands_for c.args.running.now) c.args.event (events.SetCap c.in-SetCap.cpu c.in-SetCap.entry c.in-SetCap.space c.in-SetCap.slot c.in-SetCap.word) _ c.in-SetCap.is
    (did_all c.set_cap.result (stands_for c.args.running.now) (events.SetCap c.in-SetCap.cpu c.in-SetCap.entry c.in-SetCap.space c.in-SetCap.slot c.in-SetCap.word) _ c.set_cap.ensures.no c.set_cap.ensures.may c.set_cap.ensures.then)

pub returns-in-Pin-clause-did : goal.returns-in-Pin-clause-did
returns-in-Pin-clause-did c = did_at c.pin_event.result (stands_for c.args.running.now) c.args.event (events.Pin c.in-Pin.cpu c.in-Pin.object c.in-Pin.turn) _ c.in-Pin.is c.pin_event.ensures.did

pub returns-in-Unpin-clause-did : goal.returns-in-Unpin-clause-did
returns-in-Unpin-clause-did c = did_at c.unpin_event.result (stands_for c.args.running.now) c.args.event (events.Unpin c.in-Unpin.cpu c.in-Unpin.object c.in-Unpin.turn) _ c.in-Unpin.is c.unpin_event.ensures.did

pub returns-in-Free-clause-did : goal.returns-in-Free-clause-did
returns-in-Free-clause-did c = did_at c.free.result (stands_for c.args.running.now) c.args.event (events.Free c.in-Free.cpu c.in-Free.ended) _ c.in-Free.is c.free.ensures.did

pub returns-in-Join-clause-did : goal.returns-in-Join-clause-did
returns-in-Join-clause-did c = subst (λ (e : Event). Did (stands_for c.args.running.now) e c.may_move.result (stands_for c.args.running.now)) (sym c.in-Join.is)
    (did_made (stands_for c.args.running.now) (events.Join c.in-Join.cpu) (stands_for c.args.running.now) (moves (stands_for c.args.running.now) c.in-Join.cpu.0) c.may_move.result c.may_move.ensures (λ _. refl)
    (move_told (stands_for c.args.running.now) c.in-Join.cpu.0) (tells_move (stands_for c.args.running.now) c.in-Join.cpu.0))

pub returns-in-Split-clause-did : goal.returns-in-Split-clause-did
returns-in-Split-clause-did c = subst (λ (e : Event). Did (stands_for c.args.running.now) e c.may_move-in-Split.result (stands_for c.args.running.now)) (sym c.in-Split.is)
    (did_made (stands_for c.args.running.now) (events.Split c.in-Split.cpu) (stands_for c.args.running.now) (moves (stands_for c.args.running.now) c.in-Split.cpu.0) c.may_move-in-Split.result c.may_move-in-Split.ensures (λ _. refl)
    (move_told (stands_for c.args.running.now) c.in-Split.cpu.0) (tells_move (stands_for c.args.running.now) c.in-Split.cpu.0))
