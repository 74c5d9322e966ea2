-- The law is the lemma.
use Rattle.gh_events.proofs.SoundEvents.{given_keeps_sound}
use Rattle.gh_events.proofs.sound.given_call_keeps_sound.Goals as goal

pub returns : goal.returns
returns c = λ conf at number frame sound may. given_keeps_sound conf at number frame sound may
