use Rattle.gh_events.proofs.StartWords.{start_shows}
use Rattle.gh_events.proofs.words.start_shows_words.Goals as goal

pub returns : goal.returns
returns c = λ lines index fits indices. start_shows lines index fits indices
