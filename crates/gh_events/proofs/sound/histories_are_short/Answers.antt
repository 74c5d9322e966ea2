-- The law is the lemma.
use Rattle.gh_events.proofs.LengthBound.{history_is_short}
use Rattle.gh_events.proofs.SoundEvents.{run_is_short}
use Rattle.gh_events.proofs.sound.histories_are_short.Goals as goal

pub returns-clause-sound : goal.returns-clause-sound
returns-clause-sound c = λ conf sound. history_is_short conf sound.long sound.calls

pub returns-clause-runs : goal.returns-clause-runs
returns-clause-runs c = λ lines index steps fits indices runs. run_is_short lines index steps fits indices runs
