-- The law is the lemma.
use Rattle.gh_events.proofs.SoundRevive.{revive_dead, revive_reclaimed, revive_unpinned, revive_zero}
use Rattle.gh_events.proofs.sound.revived_index_is_free.Goals as goal

pub returns-clause-dead : goal.returns-clause-dead
returns-clause-dead c = λ conf cpu object count sound may. revive_dead conf cpu.0 object.0 count sound may

pub returns-clause-zero : goal.returns-clause-zero
returns-clause-zero c = λ conf cpu object count sound may. revive_zero conf cpu.0 object.0 count sound may

pub returns-clause-unpinned : goal.returns-clause-unpinned
returns-clause-unpinned c = λ conf cpu object count sound may. revive_unpinned conf cpu.0 object.0 count sound may

pub returns-clause-reclaimed : goal.returns-clause-reclaimed
returns-clause-reclaimed c = λ conf cpu object count place serial sound may within alive here.
    revive_reclaimed conf cpu.0 object.0 count sound may place serial within alive here
