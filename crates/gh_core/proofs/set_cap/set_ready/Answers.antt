-- The event, and then the indices and the word of the slot.
use Rattle.std.proofs.Common.{◌≡◌, subst, IfSome, List, Option}
use Rattle.gh_events.specs.Config.{present}
use Rattle.gh_core.specs.Owing.{later_indices, owing_of}
use Rattle.gh_core.specs.Running.{event_of, index_in, stands_for}
use Rattle.gh_core.specs.declared.table.Written.{Written}
use Rattle.gh_core.proofs.SettingTests.{set_put}
use Rattle.gh_core.proofs.set_cap.set_ready.Goals as goal

pub returns-in_ok-put_setting-in-Some-clause-then : goal.returns-in_ok-put_setting-in-Some-clause-then
returns-in_ok-put_setting-in-Some-clause-then c = λ yes. set_put (stands_for c.args.running.now) (stands_for c.put_event.new.running) (stands_for c.put_setting.new.running) (event_of c.args.next.logged)
    c.args.running.now.first c.put_event.new.running.first c.in_ok-later.later
    (later_indices c.args.running.now.given (present (stands_for c.args.running.now)) c.args.next.state c.args.setting.word) c.as_slice-2.result.now
    c.args.running.now.turn c.args.present.now (present (stands_for c.args.running.now)) c.args.next.state c.in-Some.owed
    c.args.setting.space.0 c.args.setting.slot c.args.setting.word
    c.in_ok-put_setting-in-Some.ensures.put c.in_ok-put_event-in-Some.ensures.put c.in_ok-put_event-in-Some.ensures.first c.in_ok-later.ensures.later
    (subst (λ (o : Option (List Written)). IfSome o (λ all. all ≡ owing_of c.args.running.now.turn c.args.present.now c.args.next.state (stands_for c.args.running.now).index (index_in c.args.running.now.first c.as_slice-2.result.now))) c.in-Some.is c.in_ok-owing_later.ensures.value)
    c.as_slice-2.ensures c.requires.present
