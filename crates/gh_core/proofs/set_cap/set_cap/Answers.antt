-- A slot is set exactly where it may be, and then as the machine sets it.
use Rattle.std.proofs.Common.{◌∙◌, ap, refl, sym, subst, is_some, IfSome, Option}
use Rattle.gh_base.specs.declared.limits.TheConstants.{CPUS, OBJECT_INDICES}
use Rattle.gh_core.specs.Owing.{later_of, next_is}
use Rattle.gh_core.specs.Running.{stands_for}
use Rattle.gh_core.specs.declared.commit_events.Next.{Next}
use Rattle.gh_core.proofs.CallTests.{below}
use Rattle.gh_core.proofs.CommitTests.{ready, ready_made}
use Rattle.gh_core.proofs.LogLemmas.{if_ok, if_ok_two}
use Rattle.gh_core.proofs.SettingTests.{not_ready_to_set, set_is, set_may, tells_owing, tells_setting}
use Rattle.gh_core.proofs.set_cap.set_cap.Goals as goal

pub set_ready-requires-clause-made : goal.set_ready-requires-clause-made
set_ready-requires-clause-made c = ready_made (stands_for c.args.running.now) c.args.cpu.0 c.args.entry 1 (stands_for c.args.running.now).turn ((stands_for c.args.running.now).cpu c.args.cpu.0).current c.in-Some.next
    (sym c.in_ok-ready_entry.ensures.may ∙ ap is_some c.in-Some.is)
    (subst (λ (o : Option Next). IfSome o (λ ready. next_is (stands_for c.args.running.now) c.args.entry ((stands_for c.args.running.now).cpu c.args.cpu.0).current ready)) c.in-Some.is c.in_ok-ready_entry.ensures.next)

pub returns-in-None-clause-no : goal.returns-in-None-clause-no
returns-in-None-clause-no c = λ no. not_ready_to_set c.args.running.now c.args.cpu.0 c.args.entry c.args.setting.space.0 c.args.setting.slot c.args.setting.word (sym c.in_ok-ready_entry.ensures.may ∙ ap is_some c.in-None.is)

pub returns-in-Some-clause-no : goal.returns-in-Some-clause-no
returns-in-Some-clause-no c = if_ok c.set_ready.result c.set_ready.ensures.no (λ made refused no may.
    refused no (tells_setting c.args.running.now c.args.cpu.0 c.args.entry c.args.setting.space.0 c.args.setting.slot c.args.setting.word c.in-Some.next
    (subst (λ (o : Option Next). IfSome o (λ ready. next_is (stands_for c.args.running.now) c.args.entry ((stands_for c.args.running.now).cpu c.args.cpu.0).current ready)) c.in-Some.is c.in_ok-ready_entry.ensures.next) may)
    (tells_owing c.args.running.now c.args.cpu.0 c.args.entry c.args.setting.space.0 c.args.setting.slot c.args.setting.word c.in-Some.next
    (subst (λ (o : Option Next). IfSome o (λ ready. next_is (stands_for c.args.running.now) c.args.entry ((stands_for c.args.running.now).cpu c.args.cpu.0).current ready)) c.in-Some.is c.in_ok-ready_entry.ensures.next) may))

pub returns-in-Some-clause-may : goal.returns-in-Some-clause-may
returns-in-Some-clause-may c = if_ok_two c.set_ready.result c.set_ready.ensures.goes c.set_ready.ensures.covers (λ made goes covers yes.
    set_may c.args.running.now c.args.cpu.0 c.args.entry c.args.setting.space.0 c.args.setting.slot c.args.setting.word c.in-Some.next _
    (ready c.args.running.now c.args.cpu.0 c.args.entry 1 (later_of c.args.running.now c.in-Some.next c.args.setting.word) c.in-Some.next _
    (sym c.in_ok-ready_entry.ensures.may ∙ ap is_some c.in-Some.is)
    (subst (λ (o : Option Next). IfSome o (λ ready. next_is (stands_for c.args.running.now) c.args.entry ((stands_for c.args.running.now).cpu c.args.cpu.0).current ready)) c.in-Some.is c.in_ok-ready_entry.ensures.next) (covers yes) refl)
    (goes yes) (below c.args.cpu.0 CPUS (sym c.is_cpu.ensures ∙ c.if-not-is_cpu.false))
    (below c.args.setting.space.0 OBJECT_INDICES (sym c.is_index.ensures ∙ c.if-not-is_index.false)))

pub returns-in-Some-clause-then : goal.returns-in-Some-clause-then
returns-in-Some-clause-then c = if_ok_two c.set_ready.result c.set_ready.ensures.covers c.set_ready.ensures.then (λ made covers then yes.
    then yes ∙ set_is c.args.running.now c.args.cpu.0 c.args.entry c.args.setting.space.0 c.args.setting.slot c.args.setting.word c.in-Some.next _
    (ready c.args.running.now c.args.cpu.0 c.args.entry 1 (later_of c.args.running.now c.in-Some.next c.args.setting.word) c.in-Some.next _
    (sym c.in_ok-ready_entry.ensures.may ∙ ap is_some c.in-Some.is)
    (subst (λ (o : Option Next). IfSome o (λ ready. next_is (stands_for c.args.running.now) c.args.entry ((stands_for c.args.running.now).cpu c.args.cpu.0).current ready)) c.in-Some.is c.in_ok-ready_entry.ensures.next) (covers yes) refl))
