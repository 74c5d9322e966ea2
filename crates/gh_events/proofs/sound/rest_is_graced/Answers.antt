-- The law is the lemma.
use Rattle.gh_events.proofs.SoundRest.{rest_graced}
use Rattle.gh_events.proofs.sound.rest_is_graced.Goals as goal

pub returns : goal.returns
returns c = λ conf sound rest. rest_graced conf sound rest
