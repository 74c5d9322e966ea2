-- The law is the lemma.
use Rattle.gh_events.proofs.CountsFit.{count_fits}
use Rattle.gh_events.proofs.sound.counts_fit.Goals as goal

pub returns : goal.returns
returns c = λ conf at sound within. count_fits conf sound at within
