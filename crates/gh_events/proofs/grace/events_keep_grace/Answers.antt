use Rattle.gh_events.proofs.EventsKeep.{event_graced, event_sound}
use Rattle.gh_events.proofs.grace.events_keep_grace.Goals as goal

pub returns-clause-grace : goal.returns-clause-grace
returns-clause-grace c = λ conf event sound graced state valid may. event_graced conf event sound graced state valid may

pub returns-clause-references : goal.returns-clause-references
returns-clause-references c = λ conf event sound graced state valid words room may. event_sound conf event sound graced state valid words room may
