-- The law is the lemma.
use Rattle.gh_events.proofs.SoundEvents.{start_is_sound}
use Rattle.gh_events.proofs.sound.start_is_sound.Goals as goal

pub returns : goal.returns
returns c = λ lines index fits indices. start_is_sound lines index fits indices
