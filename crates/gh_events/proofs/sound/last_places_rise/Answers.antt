-- The law is the lemma.
use Rattle.gh_events.proofs.LastPlaces.{event_places, given_places, place_within}
use Rattle.gh_events.proofs.sound.last_places_rise.Goals as goal

pub returns-clause-within : goal.returns-clause-within
returns-clause-within c = λ conf cpu sound. place_within conf sound cpu

pub returns-clause-event : goal.returns-clause-event
returns-clause-event c = λ conf event cpu sound may. event_places conf event sound may cpu

pub returns-clause-call : goal.returns-clause-call
returns-clause-call c = λ conf at number frame cpu may. given_places conf at number frame may cpu
