-- The law is the lemma.
use Rattle.gh_events.proofs.SoundGrants.{look_granted, look_pinned}
use Rattle.gh_events.proofs.sound.granted_objects_stay.Goals as goal

pub returns-clause-granted : goal.returns-clause-granted
returns-clause-granted c = λ conf cpu i call seen sound is grants. look_granted conf cpu call i seen sound is grants

pub returns-clause-pinned : goal.returns-clause-pinned
returns-clause-pinned c = λ conf cpu i call seen sound is pinned. look_pinned conf cpu call i seen sound is pinned
