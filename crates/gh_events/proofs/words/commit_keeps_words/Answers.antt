use Rattle.gh_events.proofs.WordsKeep.{commit_shows}
use Rattle.gh_events.proofs.words.commit_keeps_words.Goals as goal

pub returns : goal.returns
returns c = λ conf cpu entry fit words may. commit_shows conf cpu.0 entry fit words may
