-- The turn is given back with the call's end, or before its act.
use Rattle.std.proofs.Common.{◌∙◌, ap, false, subst, sym, true, Bool}
use Rattle.gh_events.specs.declared.event.Event.TheVariants as events
use Rattle.gh_core.specs.Running.{ends, quits, stands_for}
use Rattle.gh_core.specs.Stepped.{Did}
use Rattle.gh_core.proofs.EndTests.{end_is, end_told, tells_end}
use Rattle.gh_core.proofs.LogLemmas.{if_ok_two}
use Rattle.gh_core.proofs.StepLemmas.{did_at, did_by, did_made}
use Rattle.gh_core.proofs.TurnTests.{quit_told, tells_quit}
use Rattle.gh_core.proofs.stepping.free.Goals as goal

pub returns-then-ended-clause-did : goal.returns-then-ended-clause-did
returns-then-ended-clause-did c = did_at c.end.result (stands_for c.args.running.now) (events.Free c.args.cpu c.args.ended) (events.Free c.args.cpu true) _ (ap (events.Free c.args.cpu) c.if-ended.true)
    (did_by c.end.result (stands_for c.args.running.now) (events.Free c.args.cpu true) _ (ends c.args.running.now c.args.cpu.0) c.end.ensures.may
    (if_ok_two c.end.result c.end.ensures.may c.end.ensures.then (λ made is then yes. then yes ∙ end_is c.args.running.now c.args.cpu.0 (sym is ∙ yes)))
    (end_told c.args.running.now c.args.cpu.0) (tells_end c.args.running.now c.args.cpu.0))

pub returns-else-ended-clause-did : goal.returns-else-ended-clause-did
returns-else-ended-clause-did c = subst (λ (b : Bool). Did (stands_for c.args.running.now) (events.Free c.args.cpu b) c.quit.result (stands_for c.quit.new.running)) (sym c.if-ended.false)
    (did_made (stands_for c.args.running.now) (events.Free c.args.cpu false) (stands_for c.quit.new.running) (quits c.args.running.now c.args.cpu.0) c.quit.result c.quit.ensures.may c.quit.ensures.then
    (quit_told c.args.running.now c.args.cpu.0) (tells_quit c.args.running.now c.args.cpu.0))
