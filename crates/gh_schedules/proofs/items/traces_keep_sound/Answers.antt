-- The laws are the lemmas.
use Rattle.gh_schedules.proofs.TraceSound.{trace_keeps_sound, trace_nine}
use Rattle.gh_schedules.proofs.items.traces_keep_sound.Goals as goal

pub returns-clause-sound : goal.returns-clause-sound
returns-clause-sound c = λ conf events sound done. trace_keeps_sound conf events sound done

pub returns-clause-nine : goal.returns-clause-nine
returns-clause-nine c = λ conf events nine done. trace_nine conf events nine done
