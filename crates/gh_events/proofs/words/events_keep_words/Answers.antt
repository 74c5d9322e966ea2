use Rattle.gh_events.proofs.WordsLaw.{event_shows}
use Rattle.gh_events.proofs.words.events_keep_words.Goals as goal

pub returns : goal.returns
returns c = λ conf event sound state fit words room may.
    event_shows conf event sound state fit words room may
