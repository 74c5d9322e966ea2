-- The law is the lemma.
use Rattle.gh_events.proofs.SoundLooks.{empty_fails, finds_present, revoked_fails}
use Rattle.gh_events.proofs.sound.looks_find_present.Goals as goal

pub returns-clause-present : goal.returns-clause-present
returns-clause-present c = λ conf cpu slot call seen may is last. finds_present conf cpu.0 slot may call is seen last

pub returns-clause-empty : goal.returns-clause-empty
returns-clause-empty c = λ conf cpu slot call may is none. empty_fails conf cpu.0 slot may call is none

pub returns-clause-revoked : goal.returns-clause-revoked
returns-clause-revoked c = λ conf cpu slot call row may is found revoked. revoked_fails conf cpu.0 slot may call is row found revoked
