-- The law is the lemma.
use Rattle.gh_events.proofs.SoundEvents.{event_keeps_sound}
use Rattle.gh_events.proofs.sound.events_keep_sound.Goals as goal

pub returns : goal.returns
returns c = λ conf event sound may. event_keeps_sound conf event sound may
