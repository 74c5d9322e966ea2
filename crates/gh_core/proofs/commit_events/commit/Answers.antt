-- An entry is committed exactly where it may be, and then as the machine commits it.
use Rattle.std.proofs.Common.{◌∙◌, ap, sym, subst, is_some, IfSome, Option}
use Rattle.gh_base.specs.declared.limits.TheConstants.{CPUS}
use Rattle.gh_core.specs.Owing.{next_is}
use Rattle.gh_core.specs.Running.{stands_for}
use Rattle.gh_core.specs.declared.commit_events.Next.{Next}
use Rattle.gh_core.proofs.CallTests.{below}
use Rattle.gh_core.proofs.CommitTests.{covered_is, covered_may, not_covered, not_ready, ready_made}
use Rattle.gh_core.proofs.LogLemmas.{if_ok, if_ok_two}
use Rattle.gh_core.proofs.commit_events.commit.Goals as goal

pub commit_ready-requires-clause-made : goal.commit_ready-requires-clause-made
commit_ready-requires-clause-made c = ready_made (stands_for c.args.running.now) c.args.cpu.0 c.args.entry 0 (stands_for c.args.running.now).turn ((stands_for c.args.running.now).cpu c.args.cpu.0).current c.in-Some.next
    (sym c.in_ok-ready_entry.ensures.may ∙ ap is_some c.in-Some.is)
    (subst (λ (o : Option Next). IfSome o (λ ready. next_is (stands_for c.args.running.now) c.args.entry ((stands_for c.args.running.now).cpu c.args.cpu.0).current ready)) c.in-Some.is c.in_ok-ready_entry.ensures.next)

pub returns-in-None-clause-no : goal.returns-in-None-clause-no
returns-in-None-clause-no c = λ no. not_ready c.args.running.now c.args.cpu.0 c.args.entry (sym c.in_ok-ready_entry.ensures.may ∙ ap is_some c.in-None.is)

pub returns-in-Some-clause-may : goal.returns-in-Some-clause-may
returns-in-Some-clause-may c = if_ok c.commit_ready.result c.commit_ready.ensures.may (λ made covers yes.
    covered_may c.args.running.now c.args.cpu.0 c.args.entry c.in-Some.next c.args.present.now c.requires.present
    (sym c.in_ok-ready_entry.ensures.may ∙ ap is_some c.in-Some.is)
    (subst (λ (o : Option Next). IfSome o (λ ready. next_is (stands_for c.args.running.now) c.args.entry ((stands_for c.args.running.now).cpu c.args.cpu.0).current ready)) c.in-Some.is c.in_ok-ready_entry.ensures.next)
    (covers yes) (below c.args.cpu.0 CPUS (sym c.is_cpu.ensures ∙ c.if-not-is_cpu.false)))

pub returns-in-Some-clause-then : goal.returns-in-Some-clause-then
returns-in-Some-clause-then c = if_ok_two c.commit_ready.result c.commit_ready.ensures.may c.commit_ready.ensures.then (λ made covers then yes.
    covered_is c.args.running.now c.args.cpu.0 c.args.entry c.in-Some.next c.args.present.now c.requires.present
    (sym c.in_ok-ready_entry.ensures.may ∙ ap is_some c.in-Some.is)
    (subst (λ (o : Option Next). IfSome o (λ ready. next_is (stands_for c.args.running.now) c.args.entry ((stands_for c.args.running.now).cpu c.args.cpu.0).current ready)) c.in-Some.is c.in_ok-ready_entry.ensures.next)
    (covers yes) _ (then yes))

pub returns-in-Some-clause-no : goal.returns-in-Some-clause-no
returns-in-Some-clause-no c = if_ok c.commit_ready.result c.commit_ready.ensures.no (λ made uncovered no.
    not_covered c.args.running.now c.args.cpu.0 c.args.entry c.in-Some.next c.args.present.now c.requires.present
    (sym c.in_ok-ready_entry.ensures.may ∙ ap is_some c.in-Some.is)
    (subst (λ (o : Option Next). IfSome o (λ ready. next_is (stands_for c.args.running.now) c.args.entry ((stands_for c.args.running.now).cpu c.args.cpu.0).current ready)) c.in-Some.is c.in_ok-ready_entry.ensures.next)
    (uncovered no))
