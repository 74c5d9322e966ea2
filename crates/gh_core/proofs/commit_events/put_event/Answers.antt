-- The event is allowed where it stands.
use Rattle.gh_core.specs.Running.{boot_of}
use Rattle.gh_core.proofs.LogLemmas.{log_more, on_ok}
use Rattle.gh_core.proofs.commit_events.put_event.Goals as goal

pub returns-clause-kept : goal.returns-clause-kept
returns-clause-kept c = on_ok c.push.result c.push.ensures.ok (λ pushed. record {
  nine = c.requires.kept.nine;
  first = c.requires.kept.first;
  given = c.requires.kept.given;
  made = log_more (boot_of c.args.running.now) c.args.running.now.log c.push.new.self c.args.logged pushed c.requires.kept.made c.requires.made;
})
