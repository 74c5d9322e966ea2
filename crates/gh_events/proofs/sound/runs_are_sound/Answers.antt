-- The law is the lemma.
use Rattle.gh_events.proofs.SoundEvents.{run_is_sound}
use Rattle.gh_events.proofs.sound.runs_are_sound.Goals as goal

pub returns : goal.returns
returns c = λ lines index steps fits indices runs. run_is_sound lines index steps fits indices runs
