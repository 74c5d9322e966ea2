-- The law is the lemma.
use Rattle.gh_events.proofs.IndicesStay.{event_index, event_made, run_index, run_made}
use Rattle.gh_events.proofs.sound.indices_stay.Goals as goal

pub returns-clause-event : goal.returns-clause-event
returns-clause-event c = λ conf event serial made. event_index conf event serial made

pub returns-clause-run : goal.returns-clause-run
returns-clause-run c = λ conf steps serial made. run_index conf steps serial made

pub returns-clause-made : goal.returns-clause-made
returns-clause-made c = λ conf event. event_made conf event

pub returns-clause-made_by_run : goal.returns-clause-made_by_run
returns-clause-made_by_run c = λ conf steps. run_made conf steps
